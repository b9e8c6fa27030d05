use Rattle.std.proofs.Common.{◌≡◌, ℕ, ◌<◌, length, ◌∷◌, ◌++◌, [], List, rules, sym, ap, ◌∙◌, subst, position, Some, None, slice_set, true≢false}
use Rattle.std.specs.Map.{lookup}
use Rattle.amqp_data.specs.Pairs.{insert_pair}
use Rattle.amqp_data.specs.Index.{bucket_of, IsIndexed}
use Rattle.amqp_data.proofs.IndexLemmas.{indexed_kept, indexed_push, place}
use Rattle.amqp_data.proofs.PairLemmas.{lookup_none, lookup_found, insert_new, insert_found}
use Rattle.amqp_data.proofs.ordered_map_builder.OrderedMapBuilder.insert.Goals as goal

pub invariant_of-self : goal.invariant_of-self
invariant_of-self g c =
    indexed_kept g.K.PartialEq.eq g.K.Hash.hash_input c.self.inside.heads.items c.self.inside.earlier.items c.self.inside.entries.items c.in-Some.at c.index_mut.result.now c.replace.new.dest c.self.invariant c.index_mut.ensures.value

-- the position of a key that is present
found : (g : _) (c : goal.After-drop-key g) → Some c.in-Some.at ≡ position (λ e. g.K.PartialEq.eq c.args.key e.0) c.self.inside.entries.items
found g c =
    place (λ e. g.K.PartialEq.eq c.args.key e.0) c.deref.result.now c.self.inside.entries.items c.locate-found.result.0 (Some c.in-Some.at)
    c.locate-found.ensures.position c.in-Some.is c.deref.ensures.value

pub returns-in-Some-clause-replaced : goal.returns-in-Some-clause-replaced
returns-in-Some-clause-replaced g c =
    subst (λ (es : List (_ × _)). Some c.replace.result ≡ lookup (g.K.PartialEq.eq c.args.key) es) c.self.view_is
    (ap Some c.replace.ensures.value
    ∙ lookup_found g.K.PartialEq.eq c.args.key c.self.inside.entries.items c.in-Some.at c.index_mut.result.now (found g c) c.index_mut.ensures.value)

pub returns-in-Some-clause-entries : goal.returns-in-Some-clause-entries
returns-in-Some-clause-entries g c =
    subst (λ (es : List (_ × _)). slice_set c.self.inside.entries.items c.in-Some.at (c.index_mut.result.now.0, c.replace.new.dest) ≡ insert_pair g.K.PartialEq.eq es c.args.key c.args.value) c.self.view_is
    (ap (λ v. slice_set c.self.inside.entries.items c.in-Some.at (c.index_mut.result.now.0, v)) c.replace.ensures.after
    ∙ insert_found g.K.PartialEq.eq c.args.key c.self.inside.entries.items c.args.value c.in-Some.at c.index_mut.result.now (found g c) c.index_mut.ensures.value)

-- a key that is not present has no position
absent : (g : _) (c : goal.After-add_last g) → None ≡ position (λ e. g.K.PartialEq.eq c.args.key e.0) c.self.inside.entries.items
absent g c =
    place (λ e. g.K.PartialEq.eq c.args.key e.0) c.deref.result.now c.self.inside.entries.items c.locate-found.result.0 None
    c.locate-found.ensures.position c.in-None.is c.deref.ensures.value

-- its entry is appended
pushed : (g : _) (c : goal.After-add_last g) → c.push.new.self.items ≡ c.self.inside.entries.items ++ (c.args.key, c.args.value) ∷ []
pushed g c = search rules

pub invariant_of-self-in-None : goal.invariant_of-self-in-None
invariant_of-self-in-None g c =
    let lent = c.deref-in-None.ensures.value in
    let eq = g.K.PartialEq.eq in
    let input = g.K.Hash.hash_input in
    subst (λ (es : List (_ × _)). IsIndexed eq input c.add_last.new.heads.items c.add_last.new.earlier.items es) lent
    (indexed_push eq input g.met.K.Eq.laws.symm c.self.inside.heads.items c.self.inside.earlier.items c.add_last.new.heads.items c.add_last.new.earlier.items
    c.self.inside.entries.items c.deref-in-None.result.now c.args.key c.args.value c.locate-found.result.1 c.self.invariant (absent g c) (lent ∙ pushed g c)
    (subst (λ (hs : List ℕ). 0 < length hs → c.locate-found.result.1 ≡ bucket_of (length hs) (input c.args.key)) c.deref-2.ensures.value c.locate-found.ensures.bucket)
    c.add_last.ensures)

pub returns-in_err-push-in-None-clause-present_succeeds : goal.returns-in_err-push-in-None-clause-present_succeeds
returns-in_err-push-in-None-clause-present_succeeds g c =
    let absent =
    place (λ e. g.K.PartialEq.eq c.args.key e.0) c.deref.result.now c.self.inside.entries.items c.locate-found.result.0 None
    c.locate-found.ensures.position c.in-None.is c.deref.ensures.value in
    let none = lookup_none g.K.PartialEq.eq c.args.key c.self.inside.entries.items absent in
    rw (← c.self.view_is, sym none) (λ h. absurd (true≢false (sym h)))

pub returns-in_ok-push-in-None-clause-replaced : goal.returns-in_ok-push-in-None-clause-replaced
returns-in_ok-push-in-None-clause-replaced g c =
    subst (λ (es : List (_ × _)). None ≡ lookup (g.K.PartialEq.eq c.args.key) es) c.self.view_is
    (lookup_none g.K.PartialEq.eq c.args.key c.self.inside.entries.items (absent g c))

pub returns-in_ok-push-in-None-clause-entries : goal.returns-in_ok-push-in-None-clause-entries
returns-in_ok-push-in-None-clause-entries g c =
    subst (λ (es : List (_ × _)). c.push.new.self.items ≡ insert_pair g.K.PartialEq.eq es c.args.key c.args.value) c.self.view_is
    (pushed g c ∙ insert_new g.K.PartialEq.eq c.args.key c.self.inside.entries.items c.args.value (absent g c))
