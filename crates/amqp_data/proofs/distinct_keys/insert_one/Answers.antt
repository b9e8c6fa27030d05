use Rattle.std.proofs.Common.{◌≡◌, [], Some, None, position, slice_set, sym, ap, ◌∙◌, subst}
use Rattle.amqp_data.specs.Index.{IsIndexed}
use Rattle.amqp_data.specs.Pairs.{insert_pair, insert_pairs}
use Rattle.amqp_data.proofs.IndexLemmas.{indexed_kept, indexed_next, if_true}
use Rattle.amqp_data.proofs.PairLemmas.{insert_found, insert_pairs_push, inserted_one}
use Rattle.amqp_data.proofs.distinct_keys.insert_one.Goals as goal

-- the value at the position of the key has been replaced
pub returns-in-Some-Some-clause-merged : goal.returns-in-Some-Some-clause-merged
returns-in-Some-Some-clause-merged g c =
    let eq = g.K.PartialEq.eq in
    let es = c.args.entries.now.items in
    let e = c.index_mut.result.now in
    let at = c.in-Some-Some.at in
    let found : Some at ≡ position (λ x. eq c.args.key x.0) es = sym c.in-Some-Some.field-0-is ∙ c.in-Some-Some.ensures ∙ ap (position (λ x. eq c.args.key x.0)) c.deref.ensures.value in
    let is : slice_set es at (e.0, c.replace.new.dest) ≡ insert_pair eq es c.args.key c.args.value =
    ap (λ v. slice_set es at (e.0, v)) c.replace.ensures.after ∙ insert_found eq c.args.key es c.args.value at e found c.index_mut.ensures.value in
    let kept = indexed_kept eq g.K.Hash.hash_input c.args.heads.now c.args.earlier.now.items es at e c.replace.new.dest c.requires.indexed c.index_mut.ensures.value in
    inserted_one eq g.met.K.Eq.laws.symm es (slice_set es at (e.0, c.replace.new.dest)) c.args.key c.args.value c.requires.indexed.distinct kept.distinct is

pub returns-in-Some-Some-clause-indexed : goal.returns-in-Some-Some-clause-indexed
returns-in-Some-Some-clause-indexed g c =
    indexed_kept g.K.PartialEq.eq g.K.Hash.hash_input c.args.heads.now c.args.earlier.now.items c.args.entries.now.items c.in-Some-Some.at c.index_mut.result.now c.replace.new.dest c.requires.indexed c.index_mut.ensures.value

-- the entry has been appended
pub returns-in_ok-push-in-Some-None-clause-merged : goal.returns-in_ok-push-in-Some-None-clause-merged
returns-in_ok-push-in-Some-None-clause-merged g c =
    ap (λ es. insert_pairs g.K.PartialEq.eq es []) c.in_ok-push-in-Some-None.ensures.items
    ∙ insert_pairs_push g.K.PartialEq.eq c.args.entries.now.items (c.args.key, c.args.value) []

pub returns-in_ok-push-in-Some-None-clause-indexed : goal.returns-in_ok-push-in-Some-None-clause-indexed
returns-in_ok-push-in-Some-None-clause-indexed g c =
    let eq = g.K.PartialEq.eq in
    let input = g.K.Hash.hash_input in
    let es = c.args.entries.now.items in
    let none : None ≡ position (λ x. eq c.args.key x.0) es = sym c.in-Some-None.field-0-is ∙ c.in-Some-None.ensures ∙ ap (position (λ x. eq c.args.key x.0)) c.deref.ensures.value in
    if_true c.add.result (λ added.
    subst (IsIndexed eq input c.add.new.heads c.add.new.earlier.items) (sym c.in_ok-push-in-Some-None.ensures.items)
    (indexed_next eq input g.met.K.Eq.laws.symm c.args.heads.now c.args.earlier.now.items c.add.new.heads c.add.new.earlier.items es (c.args.key, c.args.value) c.bucket_of-bucket.result
    c.requires.indexed none c.add.ensures.length c.requires.some c.bucket_of-bucket.ensures.bucket (c.add.ensures.chained added)))

pub returns-in_ok-push-in-None-clause-merged : goal.returns-in_ok-push-in-None-clause-merged
returns-in_ok-push-in-None-clause-merged g c =
    ap (λ es. insert_pairs g.K.PartialEq.eq es []) c.in_ok-push-in-None.ensures.items
    ∙ insert_pairs_push g.K.PartialEq.eq c.args.entries.now.items (c.args.key, c.args.value) []
