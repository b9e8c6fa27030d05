use Rattle.std.proofs.Common.{◌∷◌}
use Rattle.amqp_ser.specs.Tree.{null}
use Rattle.amqp_de.proofs.EncodedCounts.{scalar_counts}
use Rattle.amqp_de.proofs.EncodedLemmas.{scalar_found}
use Rattle.amqp_de.proofs.encoded.EncodedSource.null.Goals as goal

pub returns-in-Ok-clause-ok : goal.returns-in-Ok-clause-ok
returns-in-Ok-clause-ok c =
    let s = c.args.self in
    let (is, left) = scalar_found s.depth (s.code ∷ s.bytes.now) c.in-Ok.rest.now null c.in-Ok.ensures in
    ((left, scalar_counts s.depth (s.code ∷ s.bytes.now) c.in-Ok.rest.now null c.in-Ok.ensures), is)
