use Rattle.std.proofs.Common.{rules, ◌≡◌, [], ◌∷◌, Some, ap, ◌∙◌, arith, length, suc}
use Rattle.std.proofs.lemmas.Grind.{common_steps}
use Rattle.amqp_decode.specs.Parsed.{parse}
use Rattle.amqp_decode.specs.WithoutBytes.{elements_without_bytes}
use Rattle.amqp_decode.proofs.Whole.{nil-from_length}
use Rattle.amqp_de.specs.EncodedTrees.{tree_in}
use Rattle.amqp_de.proofs.slice.read_bytes.Goals as goal

pub returns-then-is_empty-clause-read : goal.returns-then-is_empty-clause-read
returns-then-is_empty-clause-read g c =
    let len : length c.in-Ok.rest.now ≡ 0 = grind (arith, common_steps) in
    let empty : c.in-Ok.rest.now ≡ [] = nil-from_length c.in-Ok.rest.now len in
    let whole : c.args.bytes.now ≡ c.in_ok-code.code.now ∷ c.in_ok-code.payload.now = search rules in
    let t = tree_in (parse (suc c.args.depth) (c.in_ok-code.code.now ∷ c.in_ok-code.payload.now)) in
    (t, ap (parse (suc c.args.depth)) whole ∙ c.in-Ok.ensures.read.1.0 ∙ ap (λ r. Some (t, r)) empty, (c.in-Ok.ensures.read.0, c.in-Ok.ensures.law))

pub returns-then-is_empty-clause-none : goal.returns-then-is_empty-clause-none
returns-then-is_empty-clause-none g c =
    let whole : c.args.bytes.now ≡ c.in_ok-code.code.now ∷ c.in_ok-code.payload.now = search rules in
    ap (elements_without_bytes (suc c.args.depth)) whole ∙ c.in-Ok.ensures.read.1.1
