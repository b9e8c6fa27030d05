-- The results that are permitted for the value serializer, and the contents of its open compounds.
use Rattle.std.specs.Prelude.{◌≡◌, ◌≤◌, false, List, [], ◌∷◌, ◌++◌, length, Option, Some, None, Result, Ok, Err}
use Rattle.std.proofs.Common.{refl, ap, ◌∙◌, subst}
use Rattle.amqp_ser.specs.Composites.{as_described}
use Rattle.amqp_ser.specs.Tree.{Descriptor, Tree, Trees}
use Rattle.amqp_ser.specs.Compounds.{all_trees, as_kind}
use Rattle.amqp_ser.specs.declared.kind.CompoundKind.{CompoundKind}
use Rattle.amqp_ser.specs.declared.kind.CompoundKind.TheVariants as kind
use Rattle.amqp_ser.specs.declared.marker.Marker.TheVariants as marker
use Rattle.amqp_value.specs.declared.value.Value.{Value}
use Rattle.amqp_to_value.specs.PendingDescriptors.{saved_of, described_by, standing}
use Rattle.amqp_to_value.specs.ImageOf.{Answers, Represents}
use Rattle.amqp_to_value.specs.Opened.{AreOpened}
use Rattle.amqp_ser.specs.Meant.{meant, meant_none}
use Rattle.amqp_to_value.specs.HeldImages.{HoldsImages, is_single, compound_tree}
use Rattle.amqp_ser.specs.declared.pending.Pending.{Pending}
use Rattle.amqp_ser.specs.declared.pending.Pending.TheVariants as pending
use Rattle.amqp_to_value.specs.declared.open_value.OpenValue.{OpenValue}
use Rattle.amqp_to_value.specs.declared.open_value.OpenBody.{OpenBody}
use Rattle.amqp_to_value.specs.declared.open_value.OpenBody.TheVariants as body
use Rattle.amqp_to_value.specs.declared.parts.CollectedParts.{CollectedParts}
use Rattle.amqp_to_value.specs.declared.serializer.Serializer.{Serializer}
use Rattle.amqp_to_value.specs.declared.value_error.ValueError.{ValueError}

-- No marker and no descriptor is pending.
abbrev pub IsFresh : Serializer → Type 0
IsFresh s = (s.pending ≡ pending.Marker marker.Other) × (s.descriptors.next ≡ false)

-- The intended tree: under the pending marker, inside the pending descriptors.
abbrev pub meant_by : Serializer → Option Tree → Option Tree
meant_by s t = described_by (standing s.descriptors) (meant s.pending t)

-- All the descriptors on the stack.
abbrev pub all_held : Serializer → List Descriptor
all_held s = s.descriptors.kept ++ s.descriptors.later

-- The serializer is fresh, and exactly these descriptors are kept.
abbrev pub IsKept : List Descriptor → Serializer → Type 0
IsKept ds s = IsFresh s × (s.descriptors.kept ≡ ds)

-- These descriptors are left after the kept ones, possibly with others that are no longer needed.
abbrev pub IsLeft : List Descriptor → Serializer → Type 0
IsLeft ds s = (more : List Descriptor) × (s.descriptors.later ≡ ds ++ more)

-- The kept descriptors are unchanged. A value uses its own descriptors and leaves their capacity,
-- and an error leaves the descriptors.
abbrev pub Leaves : List Descriptor → List Descriptor → Result Value ValueError → Serializer → Type 0
Leaves others own (Ok v) s = IsKept others s × (length (others ++ own) ≤ s.descriptors.room)
Leaves others own (Err e) s = IsKept others s × IsLeft own s

abbrev pub ValuePermits : Serializer → Option Tree → Result Value ValueError → Serializer → Type 0
ValuePermits s t r after = Answers (meant_by s t) r × Leaves s.descriptors.kept (standing s.descriptors) r after

-- An open compound that contains these parts.
pub record HoldsParts (pending : Pending) (kind : CompoundKind) (compound : CollectedParts) (ps : List (Option Tree)) : Type 0 where
  pub ts : Trees
  pub trees : all_trees ps ≡ Some ts
  -- The same trees, after their lazy trees are read.
  pub us : Trees
  pub opened : AreOpened ts us
  pub accepted : HoldsImages compound us
  pub makes : (o : Option Trees) → meant pending (as_kind kind o) ≡ compound_tree compound o

-- A single compound has no value and no part, or one part and its value.
abbrev pub HasValue : Pending → Option Value → List (Option Tree) → Type 0
HasValue u None [] = Unit {0}
HasValue u None (p ∷ ps) = ⊥
HasValue u (Some v) [] = ⊥
HasValue u (Some v) (p ∷ []) = Represents v (meant u p)
HasValue u (Some v) (p ∷ (q ∷ ps)) = ⊥

-- The compound, opened under this pending marker, can contain these parts.
abbrev pub HasParts : Pending → CompoundKind → OpenBody → List (Option Tree) → Type 0
HasParts u k (body.Single w v) ps = (k ≡ kind.Single) × (w ≡ u) × HasValue u v ps
HasParts u k (body.CollectedParts parts) ps = (is_single k ≡ false) × HoldsParts u k parts ps

-- The descriptors of the compound are saved.
abbrev pub IsSaved : Serializer → Serializer → Type 0
IsSaved start s = IsKept start.descriptors.kept s × IsLeft (standing start.descriptors) s

-- The descriptors of the compound are kept while a part is serialized.
abbrev pub IsKeeping : Serializer → Serializer → Type 0
IsKeeping start s = IsKept (start.descriptors.kept ++ standing start.descriptors) s

-- The same while a descriptor is serialized.
abbrev pub IsKeepingDescriptor : Serializer → Serializer → Type 0
IsKeepingDescriptor start s = (s.pending ≡ pending.Descriptor) × (s.descriptors.next ≡ false) × (s.descriptors.kept ≡ start.descriptors.kept ++ standing start.descriptors)

-- Before its value, a single compound has the serializer in the state in which the compound was
-- opened.
abbrev pub IsReady : Serializer → Serializer → OpenBody → Type 0
IsReady start s (body.Single u None) = (s.pending ≡ start.pending) × (s.descriptors.kept ≡ start.descriptors.kept) × (standing s.descriptors ≡ standing start.descriptors)
IsReady start s (body.Single u (Some v)) = IsKeeping start s
IsReady start s (body.CollectedParts parts) = IsKeeping start s

abbrev pub ValueHas : Serializer → CompoundKind → Serializer → OpenValue → List (Option Tree) → Type 0
ValueHas start k s compound ps = (compound.saved ≡ saved_of start.descriptors.kept (standing start.descriptors)) × HasParts start.pending k compound.body ps × IsSaved start s

abbrev pub ValueAwaits : Serializer → CompoundKind → Serializer → OpenValue → List (Option Tree) → Type 0
ValueAwaits start k s compound ps = (compound.saved ≡ saved_of start.descriptors.kept (standing start.descriptors)) × HasParts start.pending k compound.body ps × IsReady start s compound.body

-- A single compound can take a descriptor.
abbrev pub ValueAwaitsDescriptor : Serializer → Serializer → OpenValue → Type 0
ValueAwaitsDescriptor start s compound = (compound.saved ≡ saved_of start.descriptors.kept (standing start.descriptors)) × HasParts start.pending kind.Single compound.body [] × IsKeepingDescriptor start s

pub described_none : (ds : List Descriptor) → described_by ds None ≡ None
described_none [] = refl
described_none (d ∷ ds) = ap (as_described (Some d)) (described_none ds)

-- If there is no tree, there is no value.
pub no_value_of_none : (s : Serializer) (v : Value) (after : Serializer) → ValuePermits s None (Ok v) after → ⊥
no_value_of_none s v after h =
    let none : meant_by s None ≡ None = ap (described_by (standing s.descriptors)) (meant_none s.pending) ∙ described_none (standing s.descriptors) in subst (Represents v) none h.0
