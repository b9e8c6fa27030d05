use Rattle.std.proofs.Common.{rules, ◌≡◌, [], Some, None, ap, ◌∙◌, arith, length}
use Rattle.std.proofs.lemmas.Grind.{common_steps}
use Rattle.amqp_ser.specs.Tree.{Tree}
use Rattle.amqp_value.specs.TreeOf.{tree_of}
use Rattle.amqp_decode.specs.Parsed.{parse}
use Rattle.amqp_decode.specs.Encodes.{Encodes}
use Rattle.amqp_decode.proofs.Whole.{nil-from_length, none-encoded, rest-encoded, encoded}
use Rattle.amqp_decode.proofs.Counts.{leaves-within}
use Rattle.amqp_decode.proofs.FaultLemmas.{fails-there, whole-none, whole-rest}
use Rattle.amqp_decode.proofs.decode.decode_value_to_depth.Goals as goal

pub returns-in_err-value-clause-err : goal.returns-in_err-value-clause-err
returns-in_err-value-clause-err c =
    let none : parse c.args.depth c.args.bytes.now ≡ None → (t : Tree) → Encodes c.args.depth c.args.bytes.now t → ⊥ = none-encoded c.args.depth c.args.bytes.now in
    search (rules, none)

pub returns-then-is_empty-clause-ok : goal.returns-then-is_empty-clause-ok
returns-then-is_empty-clause-ok c =
    let len : length c.read_value.new.bytes.now ≡ 0 = grind (arith, common_steps) in
    let empty : c.read_value.new.bytes.now ≡ [] = nil-from_length c.read_value.new.bytes.now len in
    encoded c.args.depth c.args.bytes.now (tree_of c.in_ok-value.value) (c.in_ok-value.ensures.ok ∙ ap (λ r. Some (tree_of c.in_ok-value.value, r)) empty)

pub returns-then-is_empty-clause-within : goal.returns-then-is_empty-clause-within
returns-then-is_empty-clause-within c = leaves-within _ _ _ c.in_ok-value.ensures.limit

pub returns-else-is_empty-clause-err : goal.returns-else-is_empty-clause-err
returns-else-is_empty-clause-err c = λ _ _. rest-encoded c.args.depth c.args.bytes.now c.read_value.new.bytes.now (tree_of c.in_ok-value.value) c.in_ok-value.ensures.ok (search rules)

pub returns-in_err-value-clause-fault : goal.returns-in_err-value-clause-fault
returns-in_err-value-clause-fault c =
    let fails = fails-there _ _ _ (parse c.args.depth c.args.bytes.now ≡ None) c.in_err-value.ensures.err c.in_err-value.ensures.fault (whole-none c.args.depth c.args.bytes.now) in
    search (rules, fails)

pub returns-else-is_empty-clause-fault : goal.returns-else-is_empty-clause-fault
returns-else-is_empty-clause-fault c = λ _ _. whole-rest c.args.depth c.args.bytes.now c.read_value.new.bytes.now (tree_of c.in_ok-value.value) c.in_ok-value.ensures.ok
