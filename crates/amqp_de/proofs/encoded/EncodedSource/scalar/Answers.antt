use Rattle.std.proofs.Common.{◌∷◌}
use Rattle.amqp_de.proofs.EncodedCounts.{scalar_counts}
use Rattle.amqp_de.proofs.EncodedLemmas.{scalar_found}
use Rattle.amqp_de.proofs.encoded.EncodedSource.scalar.Goals as goal

pub returns-in-Ok : goal.returns-in-Ok
returns-in-Ok g c =
    let s = c.args.self in
    let k = g.K.Scalar.content c.in-Ok.read.0 in
    let (is, left) = scalar_found s.depth (s.code ∷ s.bytes.now) c.in-Ok.read.1.now k c.in-Ok.ensures in
    (is, (left, scalar_counts s.depth (s.code ∷ s.bytes.now) c.in-Ok.read.1.now k c.in-Ok.ensures))
