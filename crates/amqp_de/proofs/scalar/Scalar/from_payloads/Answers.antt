use Rattle.std.proofs.Common.{rules, ◌≡◌, [], ◌∷◌, ◌++◌, ◌∙◌, refl, arith, length}
use Rattle.std.proofs.lemmas.Grind.{common_steps}
use Rattle.amqp_ser.specs.Tree.{scalar}
use Rattle.amqp_decode.specs.Prefix.{item_of}
use Rattle.amqp_decode.specs.Parsed.{parse, parse_content}
use Rattle.amqp_decode.proofs.Levels.{parse_value}
use Rattle.amqp_de.proofs.Fillings.{filling_none, filling_more, filled}
use Rattle.amqp_de.proofs.scalar.Scalar.from_payloads.Goals as goal

pub loop-read-init : goal.loop-read-init
loop-read-init g c =
    let none : c.new-items.result.items ≡ [] = search rules in
    rw none (λ depth. filling_none (λ t x. t ≡ scalar (g.Self.Scalar.content x)) (item_of depth c.args.code) c.args.count c.args.body.now)

pub loop-read-preserved : goal.loop-read-preserved
loop-read-preserved g c =
    let p : c.push_item.new.items.items ≡ c.loop-read.items.items ++ c.in_ok-item.item ∷ [] = search rules in
    rw p (λ depth. filling_more (λ t x. t ≡ scalar (g.Self.Scalar.content x)) (item_of depth c.args.code) c.args.count c.args.body.now c.loop-read.read c.loop-read.rest.now _ c.loop-read.items.items
    (scalar (g.Self.Scalar.content c.in_ok-item.item)) c.in_ok-item.item c.loop-read-test.true (c.loop-read.invariant depth)
    (parse_value depth (c.args.code ∷ c.loop-read.rest.now) ∙ c.in_ok-item.ensures (parse depth) (parse_content depth)) refl)

pub returns-then-is_empty : goal.returns-then-is_empty
returns-then-is_empty g c depth =
    let len : length c.loop-read.rest.now ≡ 0 = grind (arith, common_steps) in
    filled (λ t x. t ≡ scalar (g.Self.Scalar.content x)) (item_of depth c.args.code) c.args.count c.args.body.now c.loop-read.read c.loop-read.rest.now c.loop-read.items.items c.loop-read-test.false (c.loop-read.invariant depth) len
