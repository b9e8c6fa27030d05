use Rattle.std.proofs.Common.{◌≡◌, ◌+◌, ◌<◌, ◌∷◌, ◌++◌, [], length, take, get_or, None, position, arith, sym, ap, ◌∙◌, subst}
use Rattle.std.proofs.lemmas.List.{take_more}
use Rattle.amqp_data.specs.Index.{bucket_of, IsIndexed}
use Rattle.amqp_data.proofs.IndexLemmas.{indexed_next}
use Rattle.amqp_data.proofs.distinct_keys.index_distinct.Goals as goal

pub loop-i-preserved : goal.loop-i-preserved
loop-i-preserved g c =
    let eq = g.K.PartialEq.eq in
    let input = g.K.Hash.hash_input in
    let e = c.index-entries-i.result in
    let done = take c.loop-i.i c.args.entries.now in
    let place : e ≡ get_or c.args.entries.now c.loop-i.i e = c.index-entries-i.is in
    let more : take (c.loop-i.i + 1) c.args.entries.now ≡ done ++ e ∷ [] =
    take_more c.args.entries.now c.loop-i.i e c.loop-i-test.true ∙ ap (λ (x : _ × _). done ++ x ∷ []) (sym place) in
    let some : 0 < length c.loop-i.heads = omega (arith, c.loop-i.invariant.0, c.requires.some (omega (arith, c.loop-i-test.true))) in
    let none : None ≡ position (λ x. eq e.0 x.0) done =
    subst (λ (x : _ × _). None ≡ position (λ y. eq x.0 y.0) done) (sym place) (sym c.in-None.is ∙ c.in_ok-find_within.ensures) in
    let bucket : c.bucket_of-bucket.result ≡ bucket_of (length c.loop-i.heads) (input e.0) =
    subst (λ (x : _ × _). c.bucket_of-bucket.result ≡ bucket_of (length c.loop-i.heads) (input x.0)) (sym place) c.bucket_of-bucket.ensures.bucket in
    let next = indexed_next eq input g.met.K.Eq.laws.symm c.loop-i.heads c.loop-i.earlier.items c.add.new.heads c.add.new.earlier.items done e c.bucket_of-bucket.result
    c.loop-i.invariant.1 none c.add.ensures.length some bucket (c.add.ensures.chained c.if-not-add.false) in (
      c.add.ensures.length ∙ c.loop-i.invariant.0,
      subst (IsIndexed eq input c.add.new.heads c.add.new.earlier.items) (sym more) next,
    )
