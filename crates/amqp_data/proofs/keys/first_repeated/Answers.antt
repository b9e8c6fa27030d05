use Rattle.std.proofs.Common.{◌≡◌, ◌+◌, ◌∷◌, ◌++◌, [], List, take, take_all, get_or, None, position, arith, sym, ap, ◌∙◌, subst}
use Rattle.std.proofs.lemmas.List.{take_more}
use Rattle.std.specs.Map.{keys_of}
use Rattle.amqp_data.specs.Pairs.{AreDistinct}
use Rattle.amqp_data.proofs.PairLemmas.{distinct_push}
use Rattle.amqp_data.proofs.keys.first_repeated.Goals as goal

pub loop-i-preserved : goal.loop-i-preserved
loop-i-preserved g c =
    let eq = g.K.PartialEq.eq in
    let e = c.index-entries-i.result in
    let done = take c.loop-i.i c.args.entries.now in
    let place : e ≡ get_or c.args.entries.now c.loop-i.i e = c.index-entries-i.is in
    let more : take (c.loop-i.i + 1) c.args.entries.now ≡ done ++ e ∷ [] =
    take_more c.args.entries.now c.loop-i.i e c.loop-i-test.true ∙ ap (λ (x : _ × _). done ++ x ∷ []) (sym place) in
    let none : None ≡ position (λ x. eq e.0 x.0) done =
    subst (λ (x : _ × _). None ≡ position (λ y. eq x.0 y.0) done) (sym place) (sym c.in-None.is ∙ c.position_of.ensures) in
    subst (λ (es : List (_ × _)). AreDistinct eq (keys_of es)) (sym more) (distinct_push eq g.met.K.Eq.laws.symm done e.0 e.1 c.loop-i.invariant none)

pub returns-clause-none : goal.returns-clause-none
returns-clause-none g c =
    subst (λ (es : List (_ × _)). AreDistinct g.K.PartialEq.eq (keys_of es)) (take_all c.loop-i.i c.args.entries.now (omega (arith, c.loop-i-test.false))) c.loop-i.invariant
