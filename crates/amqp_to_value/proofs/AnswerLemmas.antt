-- The state of the serializer after a result, and the contents of a compound after it.
use Rattle.std.proofs.Common.{◌≡◌, ◌≤◌, false, List, [], ◌∷◌, ◌++◌, Option, Some, None, Result, Ok, Err, length, refl, ap, sym, ◌∙◌, subst, append_assoc}
use Rattle.amqp_data.specs.declared.error.Error.{Error}
use Rattle.amqp_data.specs.declared.error.Error.TheVariants as error
use Rattle.amqp_ser.specs.Tree.{Descriptor, Tree, Trees}
use Rattle.amqp_ser.specs.Compounds.{all_trees, prepend, as_kind, tree_of_parts}
use Rattle.amqp_ser.specs.declared.kind.CompoundKind.TheVariants as kinds
use Rattle.amqp_ser.specs.declared.marker.Marker.TheVariants as marker
use Rattle.amqp_value.specs.TreeOf.{tree_of}
use Rattle.amqp_value.specs.declared.value.Value.{Value}
use Rattle.amqp_to_value.specs.PendingDescriptors.{DescriptorsState, under_descriptors, described_by, standing}
use Rattle.amqp_to_value.specs.ValueSerializer.{IsSaved, IsFresh, IsKept, Leaves, described_none, meant_by, ValuePermits}
use Rattle.amqp_to_value.specs.ImageOf.{error_of, refuses, Represents}
use Rattle.amqp_ser.specs.Meant.{meant, meant_none}
use Rattle.amqp_to_value.specs.declared.next_capacity.NextCapacity.{NextCapacity}
use Rattle.amqp_ser.specs.declared.pending.Pending.TheVariants as pending
use Rattle.amqp_to_value.specs.declared.serializer.Serializer.{Serializer}
use Rattle.amqp_to_value.specs.declared.value_error.ValueError.{ValueError}
use Rattle.amqp_to_value.proofs.PendingDescriptorLemmas.{refuses_in, standing_left, represents_described}
use Rattle.amqp_to_value.proofs.LazyLemmas.{unreadable_whole}

-- A value inside its pending descriptors is a permitted result.
pub finished : (start after : Serializer) (t : Option Tree) (v w : Value) (others ds : List Descriptor) → others ≡ start.descriptors.kept → ds ≡ standing start.descriptors
    → after.pending ≡ pending.Marker marker.Other → after.descriptors.kept ≡ others → after.descriptors.next ≡ false → length (others ++ ds) ≤ after.descriptors.room
    → tree_of w ≡ under_descriptors ds (tree_of v) → Represents v (meant start.pending t) → ValuePermits start t (Ok w) after
finished start after t v w others ds e f fresh is none room d s = (
  represents_described (standing start.descriptors) (meant start.pending t) v w (d ∙ ap (λ x. under_descriptors x (tree_of v)) f) s,
  (((fresh, none), is ∙ e), subst (λ n. n ≤ after.descriptors.room) (λ i. length (e i ++ f i)) room),
)

-- An error that is permitted for the tree is a permitted result.
pub finished_not : (start after : Serializer) (t : Option Tree) (e : ValueError) (old : DescriptorsState) → old.kept ≡ start.descriptors.kept → standing old ≡ standing start.descriptors
    → after.pending ≡ pending.Marker marker.Other → after.descriptors.kept ≡ old.kept → after.descriptors.later ≡ old.later → after.descriptors.next ≡ false → refuses (error_of e) (meant start.pending t) → ValuePermits start t (Err e) after
finished_not start after t e old p q fresh is left none r =
    let more = standing_left old in
    (refuses_in (standing start.descriptors) (meant start.pending t) (error_of e) r, (((fresh, none), is ∙ p), (more.0, left ∙ more.1 ∙ ap (λ ds. ds ++ more.0) q)))

-- A result leaves the kept descriptors unchanged.
pub kept_same : (ds : List Descriptor) (start after : Serializer) (r : Result Value ValueError) → start.descriptors.kept ≡ ds → Leaves start.descriptors.kept (standing start.descriptors) r after → IsKept ds after
kept_same ds start after (Ok v) h k = (k.0.0, k.0.1 ∙ h)
kept_same ds start after (Err e) h k = (k.0.0, k.0.1 ∙ h)

pub kept_on : (ds : List Descriptor) (start after : Serializer) (r : Result Value ValueError) → IsKept ds start → Leaves start.descriptors.kept (standing start.descriptors) r after → IsKept ds after
kept_on ds start after r h k = kept_same ds start after r h.1 k

-- After a part, the descriptors of the compound are saved again.
pub parted_again : (start now : Serializer) → IsKept (start.descriptors.kept ++ standing start.descriptors) now
    → now.descriptors.kept ++ now.descriptors.later ≡ start.descriptors.kept ++ (standing start.descriptors ++ now.descriptors.later)
parted_again start now k = ap (λ ds. ds ++ now.descriptors.later) k.1 ∙ append_assoc start.descriptors.kept (standing start.descriptors) now.descriptors.later

pub aside_again : (start now : Serializer) (descriptors : DescriptorsState) (capacity : NextCapacity) (more : List Descriptor) → IsFresh now → descriptors.next ≡ now.descriptors.next
    → (descriptors.kept ≡ start.descriptors.kept) × (descriptors.later ≡ standing start.descriptors ++ more) → IsSaved start (record { alloc = now.alloc; pending = now.pending; descriptors = descriptors; capacity = capacity })
aside_again start now descriptors capacity more fresh next rel = (((fresh.0, next ∙ fresh.1), rel.0), (more, rel.1))

pub saved_after : (start before now : Serializer) (descriptors : DescriptorsState) (capacity : NextCapacity) (r : Result Value ValueError) → before.descriptors.kept ≡ start.descriptors.kept ++ standing start.descriptors → Leaves before.descriptors.kept (standing before.descriptors) r now
    → descriptors.next ≡ now.descriptors.next → ((rest : List Descriptor) → now.descriptors.kept ++ now.descriptors.later ≡ start.descriptors.kept ++ rest → (descriptors.kept ≡ start.descriptors.kept) × (descriptors.later ≡ rest))
    → IsSaved start (record { alloc = now.alloc; pending = now.pending; descriptors = descriptors; capacity = capacity })
saved_after start before now descriptors capacity r same left next parted =
    let kept = kept_same (start.descriptors.kept ++ standing start.descriptors) before now r same left in
    aside_again start now descriptors capacity now.descriptors.later kept.0 next (parted (standing start.descriptors ++ now.descriptors.later) (parted_again start now kept))

-- An error that is permitted for no tree is permitted for none under markers and descriptors.
pub none_too : (s : Serializer) (e : Error) → refuses e None → refuses e (meant_by s None)
none_too s e r = subst (refuses e) (sym (ap (described_by (standing s.descriptors)) (meant_none s.pending) ∙ described_none (standing s.descriptors))) r

pub none_refused : (s : Serializer) → refuses error.InvalidValue (meant_by s None)
none_refused s = none_too s error.InvalidValue tt

-- An error that is permitted for a tree or none is permitted for none.
pub refuses_too : (e : Error) (o : Option Tree) → refuses e o → refuses e None
refuses_too e o r = unreadable_whole e o None (λ h. tt) r

-- A single compound of two parts has no tree.
two_trees : (t u : Tree) (o : Option Trees) → as_kind kinds.Single (prepend (Some t) (prepend (Some u) o)) ≡ None
two_trees t u None = refl
two_trees t u (Some ts) = refl

two_parts : (p q : Option Tree) (rest : List (Option Tree)) → tree_of_parts kinds.Single (p ∷ (q ∷ rest)) ≡ None
unfolding tree_of_parts
two_parts None q rest = refl
two_parts (Some t) None rest = refl
two_parts (Some t) (Some u) rest = two_trees t u (all_trees rest)

-- Errors of the value of a single compound, and of a second value.
pub single_refused : (s : Serializer) (p : Option Tree) (e : Error) (rest : List (Option Tree)) → refuses e (meant_by s p) → refuses e (meant_by s (tree_of_parts kinds.Single (p ∷ rest)))
unfolding tree_of_parts
single_refused s None e rest r = r
single_refused s (Some t) e [] r = r
single_refused s (Some t) e (q ∷ rest) r =
    subst (λ o. refuses e (meant_by s o)) (sym (two_parts (Some t) q rest)) (none_too s e (refuses_too e (meant_by s (Some t)) r))

pub second_refused : (s : Serializer) (p q : Option Tree) (e : Error) (rest : List (Option Tree)) → refuses e None → refuses e (meant_by s (tree_of_parts kinds.Single (p ∷ (q ∷ rest))))
second_refused s p q e rest r = subst (λ o. refuses e (meant_by s o)) (sym (two_parts p q rest)) (none_too s e r)
