use Rattle.std.proofs.Common.{◌≡◌, ℕ, ◌-◌, suc, length, arith, ap, ◌∙◌, subst, sym}
use Rattle.amqp_data.proofs.IndexLemmas.{IsSearched, found_position, none_position, searched_none, searched_one}
use Rattle.amqp_data.proofs.index.find_within.Goals as goal

pub loop-number-init : goal.loop-number-init
loop-number-init g c =
    searched_none g.K.PartialEq.eq g.K.Hash.hash_input g.met.K.Hash.respects_eq c.args.key.now (length c.args.heads.now) c.args.bucket c.args.entries.now c.args.heads.now c.args.earlier.now
    (c.requires.indexed.chained (omega (arith, c.requires.within))) c.requires.within c.requires.bucket

pub returns-then-eq : goal.returns-then-eq
returns-then-eq g c =
    found_position g.K.PartialEq.eq g.met.K.Eq.laws c.args.key.now c.args.entries.now (c.loop-number.number - 1) c.index-entries-at.result
    c.requires.indexed.distinct (omega (arith, c.loop-number.invariant.within, c.loop-number-test.true)) c.index-entries-at.is (ap (λ (e : _ × _). g.K.PartialEq.eq c.args.key.now e.0) c.index-entries-at.is ∙ sym c.if-eq.ensures)

pub loop-number-preserved : goal.loop-number-preserved
loop-number-preserved g c =
    let number : c.loop-number.number ≡ suc (c.loop-number.number - 1) = omega (arith, c.loop-number-test.true) in
    let searched = subst (λ (n : ℕ). IsSearched g.K.PartialEq.eq g.K.Hash.hash_input c.args.key.now (length c.args.heads.now) c.args.bucket c.args.entries.now n) number c.loop-number.invariant in
    searched_one g.K.PartialEq.eq g.K.Hash.hash_input g.met.K.Hash.respects_eq c.args.key.now (length c.args.heads.now) c.args.bucket c.args.entries.now c.args.heads.now c.args.earlier.now
    (c.loop-number.number - 1) c.index-entries-at.result
    (c.requires.indexed.chained (omega (arith, c.requires.within))) c.requires.bucket searched c.index-entries-at.is (ap (λ (e : _ × _). g.K.PartialEq.eq c.args.key.now e.0) c.index-entries-at.is ∙ sym c.if-eq.ensures)

pub returns : goal.returns
returns g c =
    let number : c.loop-number.number ≡ 0 = omega (arith, c.loop-number-test.false) in
    let searched = subst (λ (n : ℕ). IsSearched g.K.PartialEq.eq g.K.Hash.hash_input c.args.key.now (length c.args.heads.now) c.args.bucket c.args.entries.now n) number c.loop-number.invariant in
    none_position g.K.PartialEq.eq g.K.Hash.hash_input c.args.key.now (length c.args.heads.now) c.args.bucket c.args.entries.now searched
