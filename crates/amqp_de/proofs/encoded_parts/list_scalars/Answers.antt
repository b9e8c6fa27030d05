use Rattle.std.proofs.Common.{rules, ◌≡◌, [], ◌∷◌, ◌++◌, suc, ap, ◌∙◌, refl, arith, length}
use Rattle.std.proofs.lemmas.Grind.{common_steps}
use Rattle.amqp_ser.specs.Tree.{scalar}
use Rattle.amqp_decode.specs.Parsed.{parse, parse_content}
use Rattle.amqp_decode.proofs.Levels.{parse_value}
use Rattle.amqp_de.proofs.Fillings.{filling_none, filling_more, filled}
use Rattle.amqp_de.proofs.encoded_parts.list_scalars.Goals as goal

pub loop-read-init : goal.loop-read-init
loop-read-init g c =
    let none : c.in-Ok.items.items ≡ [] = search rules in
    rw none (λ depth. filling_none (λ t x. t ≡ scalar (g.K.Scalar.content x)) (parse (suc depth)) c.args.count c.args.bytes.now)

pub loop-read-preserved : goal.loop-read-preserved
loop-read-preserved g c =
    let p : c.push.new.self.items ≡ c.loop-read.items.items ++ c.in-Ok-from_bytes.read.0 ∷ [] = search rules in
    let whole : c.loop-read.left.now ≡ c.in-Some.code.now ∷ c.in-Some.payload.now = search rules in
    rw p (λ depth. filling_more (λ t x. t ≡ scalar (g.K.Scalar.content x)) (parse (suc depth)) c.args.count c.args.bytes.now c.loop-read.read c.loop-read.left.now _ c.loop-read.items.items
    (scalar (g.K.Scalar.content c.in-Ok-from_bytes.read.0)) c.in-Ok-from_bytes.read.0 c.loop-read-test.true (c.loop-read.invariant depth)
    (ap (parse (suc depth)) whole ∙ parse_value depth _ ∙ c.in-Ok-from_bytes.ensures (parse depth) (parse_content depth)) refl)

pub returns-then-is_empty : goal.returns-then-is_empty
returns-then-is_empty g c depth =
    let len : length c.loop-read.left.now ≡ 0 = grind (arith, common_steps) in
    filled (λ t x. t ≡ scalar (g.K.Scalar.content x)) (parse (suc depth)) c.args.count c.args.bytes.now c.loop-read.read c.loop-read.left.now c.loop-read.items.items c.loop-read-test.false (c.loop-read.invariant depth) len
