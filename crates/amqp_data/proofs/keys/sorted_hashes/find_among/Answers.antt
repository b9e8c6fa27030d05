use Rattle.std.proofs.Common.{slice_index, sym, ap, ◌∙◌, arith}
use Rattle.amqp_data.proofs.IndexLemmas.{found_position}
use Rattle.amqp_data.proofs.HashPlaces.{none_among}
use Rattle.amqp_data.proofs.keys.sorted_hashes.find_among.Goals as goal

pub returns-then-eq : goal.returns-then-eq
returns-then-eq g c =
    found_position g.K.PartialEq.eq g.met.K.Eq.laws c.args.key.now c.args.entries.now (slice_index c.args.found.now c.loop-i.i) c.index-entries-at.result
    c.requires.distinct (omega (arith, c.if-at-entries.true)) c.index-entries-at.is (ap (λ (e : _ × _). g.K.PartialEq.eq c.args.key.now e.0) c.index-entries-at.is ∙ sym c.if-eq.ensures)

pub returns : goal.returns
returns g c =
    none_among g.K.PartialEq.eq c.args.key.now c.args.entries.now c.args.found.now
    (λ j d below within. c.loop-i.invariant j d (omega (arith, below, c.loop-i-test.false)) within) c.requires.found
