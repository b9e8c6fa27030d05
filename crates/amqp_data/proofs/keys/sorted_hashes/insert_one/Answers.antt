use Rattle.std.proofs.Common.{◌≡◌, Some, None, length, position, slice_set, sym, subst, ap, ◌∙◌, rules}
use Rattle.amqp_data.proofs.PairLemmas.{insert_found, insert_new}
use Rattle.amqp_data.specs.SortedHashes.{AddsPosition, ArePlaced}
use Rattle.amqp_data.proofs.HashPlaces.{placed_kept, placed_push}
use Rattle.amqp_data.proofs.keys.sorted_hashes.insert_one.Goals as goal

-- The value at the position of the key has been replaced.
pub returns-in-Some-clause-inserted : goal.returns-in-Some-clause-inserted
returns-in-Some-clause-inserted g c =
    let eq = g.K.PartialEq.eq in
    let es = c.args.entries.now.items in
    let e = c.index_mut.result.now in
    let found : Some c.in-Some.at ≡ position (λ x. eq c.args.key x.0) es = sym c.in-Some.is ∙ c.find.ensures ∙ ap (position (λ x. eq c.args.key x.0)) c.deref.ensures.value in
    ap (λ v. slice_set es c.in-Some.at (e.0, v)) c.replace.ensures.after ∙ insert_found eq c.args.key es c.args.value c.in-Some.at e found c.index_mut.ensures.value

pub returns-in-Some-clause-placed : goal.returns-in-Some-clause-placed
returns-in-Some-clause-placed g c =
    placed_kept g.K.PartialEq.eq g.K.Hash.hash_input c.args.places.now c.args.entries.now.items c.requires c.in-Some.at c.index_mut.result.now c.replace.new.dest c.index_mut.ensures.value

-- The entry has been appended.
pub returns-in_ok-push-in-None-clause-inserted : goal.returns-in_ok-push-in-None-clause-inserted
returns-in_ok-push-in-None-clause-inserted g c =
    let eq = g.K.PartialEq.eq in
    let none : None ≡ position (λ x. eq c.args.key x.0) c.args.entries.now.items = sym c.in-None.is ∙ c.find.ensures ∙ ap (position (λ x. eq c.args.key x.0)) c.deref.ensures.value in
    c.in_ok-push-in-None.ensures.items ∙ insert_new eq c.args.key c.args.entries.now.items c.args.value none

pub returns-in_ok-push-in-None-clause-placed : goal.returns-in_ok-push-in-None-clause-placed
returns-in_ok-push-in-None-clause-placed g c =
    let eq = g.K.PartialEq.eq in
    let input = g.K.Hash.hash_input in
    let es = c.args.entries.now.items in
    let none : None ≡ position (λ x. eq c.args.key x.0) es = sym c.in-None.is ∙ c.find.ensures ∙ ap (position (λ x. eq c.args.key x.0)) c.deref.ensures.value in
    let last : c.len.result ≡ length es = search rules in
    let added = subst (λ n. AddsPosition n (length es) c.args.places.now c.add_position.new.places) c.hash_of-hash.ensures
    (subst (λ n. AddsPosition c.hash_of-hash.result n c.args.places.now c.add_position.new.places) last c.in_ok-add_position-in-None.ensures) in
    subst (ArePlaced eq input c.add_position.new.places) (sym c.in_ok-push-in-None.ensures.items)
    (placed_push eq input c.args.places.now es c.requires g.met.K.Eq.laws.symm c.add_position.new.places c.args.key c.args.value added none)
