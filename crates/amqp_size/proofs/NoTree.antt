-- A compound whose parts have trees has a tree, unless its kind is `Refused`.
use Rattle.std.proofs.Common.{◌≡◌, ℕ, List, [], ◌∷◌, Option, Some, None, true, false, Ok, refl, ap, sym, ◌∙◌, subst, inl, inr}
use Rattle.amqp_ser.specs.Tree.{Tree, Trees, list, array, map, variant, transparent}
use Rattle.amqp_ser.specs.Compounds.{as_kind, as_map, all_trees, complete, tree_of_parts}
use Rattle.amqp_ser.specs.Marked.{with_marker}
use Rattle.amqp_ser.specs.declared.kind.CompoundKind.{CompoundKind}
use Rattle.amqp_ser.specs.declared.kind.CompoundKind.TheVariants as kinds
use Rattle.amqp_ser.specs.declared.marker.Marker.TheVariants as marker
use Rattle.amqp_ser.proofs.Pairing.{Pairing, pairing, paired-even}
use Rattle.amqp_size.specs.Position.{position_of, meant, resolved_kind_of, is_gathered}
use Rattle.amqp_size.specs.SizeSerializer.{AtPosition, SingleParts, HoldsGathered, HoldsTransparent, HoldsSingle, Holding}
use Rattle.amqp_size.specs.WholeContext.{Context}
use Rattle.amqp_size.specs.WholeContext as context
use Rattle.amqp_size.specs.declared.resolved_kind.ResolvedKind.TheVariants as resolved_kinds
use Rattle.amqp_size.specs.declared.serializer.SizeSerializer.{SizeSerializer}
use Rattle.amqp_size.specs.declared.open_compound.OpenCompound.{OpenCompound}
use Rattle.amqp_ser.proofs.Single.{whole_single}
use Rattle.amqp_size.proofs.Transparent.{transparent_shape}

one_variant : (i : ℕ) (ps : List (Option Tree)) (ts : Trees) → all_trees ps ≡ Some ts → complete (kinds.NewtypeVariant i) ps ≡ true → tree_of_parts (kinds.NewtypeVariant i) ps ≡ None → ⊥
unfolding tree_of_parts
one_variant i [] ts e done n = cc
one_variant i (None ∷ []) ts e done n = cc
one_variant i (Some t ∷ []) ts e done n = let q : Some (variant i t) ≡ None = n in cc
one_variant i (p ∷ (q ∷ ps)) ts e done n = cc

refused_when_opened : (u : Context) (k : CompoundKind) (ps : List (Option Tree)) (ts : Trees) → all_trees ps ≡ Some ts → complete k ps ≡ true → (k ≡ kinds.Single → ⊥) → meant u (tree_of_parts k ps) ≡ None → resolved_kind_of u k ≡ resolved_kinds.Refused
unfolding tree_of_parts
refused_when_opened u kinds.Single ps ts e done b n = absurd (b refl)
refused_when_opened (context.Unmarked p) kinds.List ps ts e done b n = let q : None ≡ Some (list ts) = sym n ∙ ap (as_kind kinds.List) e in cc
refused_when_opened (context.Unmarked p) kinds.Map ps ts e done b n =
    let m : Pairing ts = pairing ts (sym (paired-even ps ts e) ∙ done) in
    let q : None ≡ Some (map m.pairs) = sym n ∙ ap (as_kind kinds.Map) e ∙ ap as_map m.are in cc
refused_when_opened (context.Unmarked p) (kinds.Variant i) ps ts e done b n = let q : None ≡ Some (variant i (list ts)) = sym n ∙ ap (as_kind (kinds.Variant i)) e in cc
refused_when_opened (context.Unmarked p) (kinds.NewtypeVariant i) ps ts e done b n = absurd (one_variant i ps ts e done n)
refused_when_opened (context.Array p) kinds.List ps ts e done b n = let q : None ≡ Some (array ts) = sym n ∙ ap (λ o. with_marker marker.Array (as_kind kinds.List o)) e in cc
refused_when_opened (context.Array p) kinds.Map ps ts e done b n = refl
refused_when_opened (context.Array p) (kinds.Variant i) ps ts e done b n = refl
refused_when_opened (context.Array p) (kinds.NewtypeVariant i) ps ts e done b n = refl
refused_when_opened (context.Transparent p) kinds.List ps ts e done b n = let q : None ≡ Some (transparent ts) = sym n ∙ ap (λ o. with_marker marker.Transparent (as_kind kinds.List o)) e in cc
refused_when_opened (context.Transparent p) kinds.Map ps ts e done b n = refl
refused_when_opened (context.Transparent p) (kinds.Variant i) ps ts e done b n = refl
refused_when_opened (context.Transparent p) (kinds.NewtypeVariant i) ps ts e done b n = refl
refused_when_opened (context.Scalar m p) kinds.List ps ts e done b n = refl
refused_when_opened (context.Scalar m p) kinds.Map ps ts e done b n = refl
refused_when_opened (context.Scalar m p) (kinds.Variant i) ps ts e done b n = refl
refused_when_opened (context.Scalar m p) (kinds.NewtypeVariant i) ps ts e done b n = refl
refused_when_opened (context.Nothing p) kinds.List ps ts e done b n = refl
refused_when_opened (context.Nothing p) kinds.Map ps ts e done b n = refl
refused_when_opened (context.Nothing p) (kinds.Variant i) ps ts e done b n = refl
refused_when_opened (context.Nothing p) (kinds.NewtypeVariant i) ps ts e done b n = refl

not_single : (start : SizeSerializer) (kind : CompoundKind) (compound : OpenCompound) (ps : List (Option Tree)) → HoldsGathered start kind compound ps → kind ≡ kinds.Single → ⊥
not_single start kind compound ps h k =
    let q : compound.resolved_kind ≡ resolved_kinds.Single = h.resolved_kind ∙ ap (resolved_kind_of start.context) k in
    let e : false ≡ true = sym (ap is_gathered q) ∙ h.gathered in cc

-- For each kind.
gathered_none : (start : SizeSerializer) (kind : CompoundKind) (compound : OpenCompound) (ps : List (Option Tree)) → HoldsGathered start kind compound ps → complete kind ps ≡ true → meant start.context (tree_of_parts kind ps) ≡ None → compound.resolved_kind ≡ resolved_kinds.Refused
gathered_none start kind compound ps h done n = h.resolved_kind ∙ refused_when_opened start.context kind ps h.ts h.trees done (not_single start kind compound ps h) n

transparent_none : (start : SizeSerializer) (kind : CompoundKind) (compound : OpenCompound) (ps : List (Option Tree)) → HoldsTransparent start kind compound ps → meant start.context (tree_of_parts kind ps) ≡ None → ⊥
unfolding tree_of_parts
transparent_none start kind compound ps h n =
    let at = transparent_shape start.context kind h.shaped in
    let q : None ≡ Some (transparent h.ts) = sym n ∙ ap (λ u. meant u (tree_of_parts kind ps)) at.0 ∙ ap (λ k. with_marker marker.Transparent (tree_of_parts k ps)) at.1 ∙ ap (λ o. with_marker marker.Transparent (as_kind kinds.List o)) h.trees in cc

one_part : (start : SizeSerializer) (compound : OpenCompound) (ps : List (Option Tree)) → SingleParts start compound ps → complete kinds.Single ps ≡ true → meant start.context (tree_of_parts kinds.Single ps) ≡ None → ⊥
one_part start compound [] q done n = cc
one_part start compound (p ∷ []) q done n = subst (λ o. AtPosition (position_of start.context) o (Ok compound.sum) compound.inner_context) (sym (ap (meant start.context) (whole_single p)) ∙ n) q.1
one_part start compound (p ∷ (q ∷ ps)) r done n = cc

single_none : (start : SizeSerializer) (kind : CompoundKind) (compound : OpenCompound) (ps : List (Option Tree)) → HoldsSingle start kind compound ps → complete kind ps ≡ true → meant start.context (tree_of_parts kind ps) ≡ None → ⊥
single_none start kind compound ps h done n =
    one_part start compound ps h.parts (subst (λ k. complete k ps ≡ true) h.kind_is done) (ap (λ k. meant start.context (tree_of_parts k ps)) (sym h.kind_is) ∙ n)

-- For every kind.
pub open_none : (start : SizeSerializer) (kind : CompoundKind) (compound : OpenCompound) (ps : List (Option Tree)) → Holding start kind compound ps → complete kind ps ≡ true → meant start.context (tree_of_parts kind ps) ≡ None → compound.resolved_kind ≡ resolved_kinds.Refused
open_none start kind compound ps (inl h) done n = gathered_none start kind compound ps h done n
open_none start kind compound ps (inr (inl h)) done n = absurd (transparent_none start kind compound ps h n)
open_none start kind compound ps (inr (inr h)) done n = absurd (single_none start kind compound ps h done n)
