use Rattle.std.proofs.Common.{◌≡◌, ℕ, suc}
use Rattle.amqp_ser.specs.Tree.{scalar}
use Rattle.amqp_decode.specs.Parsed.{parse}
use Rattle.amqp_de.proofs.Fillings.{Filling}
use Rattle.amqp_de.proofs.encoded_parts.list_scalars.Given as goal

abbrev pub invariant-loop-read : goal.invariant-loop-read
invariant-loop-read g l =
    (depth : ℕ) → Filling (λ t x. t ≡ scalar (g.K.Scalar.content x)) (parse (suc depth)) l.count l.read l.left l.bytes l.items.items
