-- The contents of an open compound after the result on a part.
use Rattle.std.proofs.Common.{◌≡◌, ◌≤◌, false, List, [], ◌∷◌, ◌++◌, Option, Some, None, Ok, Err, length, ap, sym, ◌∙◌, subst, append-nil}
use Rattle.amqp_ser.specs.Tree.{Descriptor, Tree}
use Rattle.amqp_ser.specs.Compounds.{tree_of_parts}
use Rattle.amqp_ser.specs.declared.kind.CompoundKind.{CompoundKind}
use Rattle.amqp_ser.specs.declared.marker.Marker.TheVariants as marker
use Rattle.amqp_value.specs.Image.{image}
use Rattle.amqp_value.specs.TreeOf.{tree_of}
use Rattle.amqp_value.specs.declared.value.Value.{Value}
use Rattle.amqp_to_value.specs.PendingDescriptors.{under_descriptors, described_by, standing}
use Rattle.amqp_to_value.specs.ValueSerializer.{HasParts, IsSaved, IsFresh, IsReady, Leaves, meant_by, ValuePermits}
use Rattle.amqp_to_value.specs.ImageOf.{error_of, refuses, Represents}
use Rattle.amqp_to_value.specs.Opened.{Opened}
use Rattle.amqp_ser.specs.Meant.{meant}
use Rattle.amqp_ser.specs.declared.pending.Pending.{Pending}
use Rattle.amqp_ser.specs.declared.pending.Pending.TheVariants as pending
use Rattle.amqp_to_value.specs.declared.open_value.OpenBody.{OpenBody}
use Rattle.amqp_to_value.specs.declared.open_value.OpenBody.TheVariants as body
use Rattle.amqp_to_value.specs.declared.serializer.Serializer.{Serializer}
use Rattle.amqp_to_value.specs.declared.value_error.ValueError.{ValueError}
use Rattle.amqp_to_value.specs.declared.value_error.ValueError.TheVariants as error
use Rattle.amqp_to_value.proofs.PendingDescriptorLemmas.{refuses_in, represents_inner}
use Rattle.amqp_to_value.proofs.AnswerLemmas.{single_refused, kept_on, parted_again, refuses_too, second_refused}
use Rattle.amqp_to_value.proofs.ValueSerializerLemmas.{unmarked_answer, refused}

-- The intended tree of a single compound before its value.
same_meant : (start before : Serializer) (u : Pending) (p : Option Tree) → IsReady start before (body.Single u None) → meant_by before p ≡ meant_by start p
same_meant start before u p ready = λ i. described_by (ready.2 i) (meant (ready.0 i) p)

refusal : (start before : Serializer) (k : CompoundKind) (b : OpenBody) (ps : List (Option Tree)) (p : Option Tree) (e : ValueError) → HasParts start.pending k b ps → IsReady start before b
    → refuses (error_of e) (meant_by before p) → (rest : List (Option Tree)) → refuses (error_of e) (meant_by start (tree_of_parts k (ps ++ (p ∷ rest))))
refusal start before k (body.Single u None) [] p e h ready r rest =
    subst (λ x. refuses (error_of e) (meant_by start (tree_of_parts x (p ∷ rest)))) (sym h.0) (single_refused start p (error_of e) rest (subst (refuses (error_of e)) (same_meant start before u p ready) r))
refusal start before k (body.Single u None) (q ∷ ps) p e h ready r rest = absurd h.2
refusal start before k (body.Single u (Some v)) [] p e h ready r rest = absurd h.2
refusal start before k (body.Single u (Some v)) (q ∷ []) p e h ready r rest =
    subst (λ x. refuses (error_of e) (meant_by start (tree_of_parts x (q ∷ (p ∷ rest))))) (sym h.0) (second_refused start q p (error_of e) rest (refuses_too (error_of e) (meant_by before p) r))
refusal start before k (body.Single u (Some v)) (q ∷ (s ∷ ps)) p e h ready r rest = absurd h.2
refusal start before k (body.CollectedParts parts) ps p e h ready r rest =
    refuses_in (standing start.descriptors) (meant start.pending (tree_of_parts k (ps ++ (p ∷ rest)))) (error_of e)
    (refused start.pending k ps p (error_of e) (unmarked_answer before (start.descriptors.kept ++ (standing start.descriptors)) p (Err e) ready r) rest)

-- The descriptors that a failed part leaves.
pub left_by_refusal : (start before now : Serializer) (b : OpenBody) (e : ValueError) → IsReady start before b → Leaves before.descriptors.kept (standing before.descriptors) (Err e) now
    → IsFresh now × (more : List Descriptor) × (now.descriptors.kept ++ now.descriptors.later ≡ start.descriptors.kept ++ (standing start.descriptors ++ more))
left_by_refusal start before now (body.Single u None) e ready k = (k.0.0, k.1.0, (λ i. (k.0.1 ∙ ready.1) i ++ (k.1.1 ∙ ap (λ ds. ds ++ k.1.0) ready.2) i))
left_by_refusal start before now (body.Single u (Some v)) e ready k = (k.0.0, now.descriptors.later, parted_again start now (kept_on _ before now (Err e) ready k))
left_by_refusal start before now (body.CollectedParts parts) e ready k = (k.0.0, now.descriptors.later, parted_again start now (kept_on _ before now (Err e) ready k))

-- After a failed part, the descriptors are saved and the error is permitted for the compound.
pub part_refused : (start before after : Serializer) (k : CompoundKind) (b : OpenBody) (ps : List (Option Tree)) (p : Option Tree) (e : ValueError) → HasParts start.pending k b ps → IsReady start before b
    → refuses (error_of e) (meant_by before p) → IsSaved start after → IsSaved start after × ((rest : List (Option Tree)) → ValuePermits start (tree_of_parts k (ps ++ (p ∷ rest))) (Err e) after)
part_refused start before after k b ps p e h ready r saved = (saved, λ rest. (refusal start before k b ps p e h ready r rest, saved))

-- After a second value of a single compound, `InvalidValue` is permitted for the compound.
pub second_part : (start after : Serializer) (k : CompoundKind) (u : Pending) (v : Value) (ps : List (Option Tree)) (p : Option Tree) → HasParts start.pending k (body.Single u (Some v)) ps
    → IsSaved start after → IsSaved start after × ((rest : List (Option Tree)) → ValuePermits start (tree_of_parts k (ps ++ (p ∷ rest))) (Err error.InvalidValue) after)
second_part start after k u v [] p h saved = absurd h.2
second_part start after k u v (q ∷ []) p h saved =
    (saved, λ rest. (subst (λ x. refuses (error_of error.InvalidValue) (meant_by start (tree_of_parts x (q ∷ (p ∷ rest))))) (sym h.0) (second_refused start q p (error_of error.InvalidValue) rest tt), saved))
second_part start after k u v (q ∷ (s ∷ ps)) p h saved = absurd h.2

-- The value of a single compound is inside the descriptors of the compound, for which there is
-- capacity.
pub record Stood (start after : Serializer) (p : Option Tree) (v : Value) : Type 0 where
  pub tree : Tree
  pub read : Tree
  pub opened : Opened tree read
  pub others : after.descriptors.kept ≡ start.descriptors.kept
  pub none : after.descriptors.next ≡ false
  pub room : length (start.descriptors.kept ++ (standing start.descriptors)) ≤ after.descriptors.room
  pub within : tree_of v ≡ under_descriptors (standing start.descriptors) (image read)
  pub means : meant start.pending p ≡ Some tree

pub represents : (start before after : Serializer) (u : Pending) (p : Option Tree) (v : Value) → IsReady start before (body.Single u None) → ValuePermits before p (Ok v) after → Stood start after p v
represents start before after u p v ready r =
    let s = represents_inner (standing start.descriptors) (meant start.pending p) v (subst (Represents v) (same_meant start before u p ready) r.0) in
    record {
      tree = s.0;
      read = s.1;
      opened = s.3;
      others = r.1.0.1 ∙ ready.1;
      none = r.1.0.0.1;
      room = subst (λ n. n ≤ after.descriptors.room) (λ i. length (ready.1 i ++ ready.2 i)) r.1.1;
      within = s.4;
      means = s.2;
    }

pub single_taken : (start after : Serializer) (k : CompoundKind) (u : Pending) (v : Value) (ps : List (Option Tree)) (p : Option Tree) (t w : Tree) → HasParts start.pending k (body.Single u None) ps
    → meant start.pending p ≡ Some t → Opened t w → after.pending ≡ pending.Marker marker.Other → (tree_of v ≡ image w) × (after.descriptors.kept ≡ start.descriptors.kept) × (after.descriptors.later ≡ standing start.descriptors) × (after.descriptors.next ≡ false)
    → HasParts start.pending k (body.Single u (Some v)) (ps ++ (p ∷ [])) × IsSaved start after
single_taken start after k u v [] p t w h m o fresh is = ((h.0, h.1, subst (Represents v) (sym m) (w, o, is.0)), (((fresh, is.3), is.1), ([], is.2 ∙ sym (append-nil _))))
single_taken start after k u v (q ∷ ps) p t w h m o fresh is = absurd h.2
