use Rattle.std.proofs.Common.{◌∷◌, refl}
use Rattle.amqp_de.proofs.EncodedCounts.{map_counts}
use Rattle.amqp_de.proofs.EncodedLemmas.{map_found}
use Rattle.amqp_de.proofs.NamesApart.{names_apart}
use Rattle.amqp_de.proofs.encoded.EncodedSource.map.Goals as goal

pub returns-in-Ok-clause-ok : goal.returns-in-Ok-clause-ok
returns-in-Ok-clause-ok c ps held apart =
    let s = c.args.self in
    let r = c.in-Ok in
    let (is, left) = map_found s.depth c.in-Some.inside r.left (s.code ∷ s.bytes.now) r.after.now r.bytes.now ps c.in-Some.ensures r.ensures.opened held.0 apart in
    (is, (left, map_counts s.depth c.in-Some.inside r.left (s.code ∷ s.bytes.now) r.bytes.now c.in-Some.ensures r.ensures.counted held.1))

pub returns-in-Ok-clause-named : goal.returns-in-Ok-clause-named
returns-in-Ok-clause-named c ns ps among d = names_apart ns ps among d

pub returns-in_default-clause-named : goal.returns-in_default-clause-named
returns-in_default-clause-named c ns ps among d = names_apart ns ps among d

pub returns-in-Err-clause-named : goal.returns-in-Err-clause-named
returns-in-Err-clause-named c ns ps among d = names_apart ns ps among d
