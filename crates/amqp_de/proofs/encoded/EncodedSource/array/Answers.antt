use Rattle.std.proofs.Common.{◌∷◌}
use Rattle.amqp_de.proofs.EncodedCounts.{array_counts}
use Rattle.amqp_de.proofs.EncodedLemmas.{array_found}
use Rattle.amqp_de.proofs.encoded.EncodedSource.array.Goals as goal

pub returns-else-constructor-eq0-clause-ok : goal.returns-else-constructor-eq0-clause-ok
returns-else-constructor-eq0-clause-ok c ts held =
    let s = c.args.self in
    let r = c.in-Ok in
    let some = c.if-constructor-eq0.false in
    let (is, left) = array_found s.depth c.in-Some.inside r.left r.constructor (s.code ∷ s.bytes.now) r.after.now r.bytes.now ts c.in-Some.ensures some r.ensures.opened held.0 in
    (is, (left, array_counts s.depth c.in-Some.inside r.left r.constructor (s.code ∷ s.bytes.now) r.bytes.now ts c.in-Some.ensures some r.ensures.counted held.0 held.1))
