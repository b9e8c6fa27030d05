use Rattle.std.proofs.Common.{◌≡◌, true, get_or, sym, ap, ◌∙◌, subst, arith}
use Rattle.amqp_data.proofs.IndexLemmas.{no_position, position_is}
use Rattle.amqp_data.proofs.index.position_of.Goals as goal

pub returns-then-eq : goal.returns-then-eq
returns-then-eq g c =
    let eq = g.K.PartialEq.eq in
    let e = c.index-entries-i.result in
    let same = ap (λ (x : _ × _). eq c.args.key.now x.0) c.index-entries-i.is ∙ sym c.if-eq.ensures in
    position_is (λ x. eq c.args.key.now x.0) c.args.entries.now c.loop-i.i e c.loop-i-test.true
    (subst (λ (x : _ × _). eq c.args.key.now x.0 ≡ true) c.index-entries-i.is same) (λ j below. c.loop-i.invariant j e below)

pub returns : goal.returns
returns g c =
    no_position (λ x. g.K.PartialEq.eq c.args.key.now x.0) c.args.entries.now (λ j d below. c.loop-i.invariant j d (omega (arith, below, c.loop-i-test.false)))
