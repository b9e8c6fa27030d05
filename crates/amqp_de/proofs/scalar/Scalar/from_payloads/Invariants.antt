use Rattle.std.proofs.Common.{◌≡◌, ℕ}
use Rattle.amqp_ser.specs.Tree.{scalar}
use Rattle.amqp_decode.specs.Prefix.{item_of}
use Rattle.amqp_de.proofs.Fillings.{Filling}
use Rattle.amqp_de.proofs.scalar.Scalar.from_payloads.Given as goal

abbrev pub invariant-loop-read : goal.invariant-loop-read
invariant-loop-read g l =
    (depth : ℕ) → Filling (λ t x. t ≡ scalar (g.Self.Scalar.content x)) (item_of depth l.code) l.count l.read l.rest l.body l.items.items
