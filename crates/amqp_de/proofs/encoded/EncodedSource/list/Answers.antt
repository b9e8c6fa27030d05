use Rattle.std.proofs.Common.{◌∷◌}
use Rattle.amqp_de.proofs.EncodedCounts.{list_counts}
use Rattle.amqp_de.proofs.EncodedLemmas.{list_found}
use Rattle.amqp_de.proofs.encoded.EncodedSource.list.Goals as goal

pub returns-in-Ok-clause-ok : goal.returns-in-Ok-clause-ok
returns-in-Ok-clause-ok c ts held =
    let s = c.args.self in
    let r = c.in-Ok in
    let (is, left) = list_found s.depth c.in-Some.inside r.left (s.code ∷ s.bytes.now) r.after.now r.bytes.now ts c.in-Some.ensures r.ensures.opened held.0 in
    (is, (left, list_counts s.depth c.in-Some.inside r.left (s.code ∷ s.bytes.now) r.bytes.now c.in-Some.ensures r.ensures.counted held.1))
