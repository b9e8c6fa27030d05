-- An open single compound.
use Rattle.std.proofs.Common.{◌≡◌, ℕ, ◌≤◌, List, [], ◌∷◌, ◌++◌, Option, Some, None, Ok, Err, refl, ap, sym, ◌∙◌, subst, arith}
use Rattle.amqp_size.specs.declared.size_error.SizeError.{SizeError}
use Rattle.amqp_size.specs.declared.size_error.SizeError.TheVariants as error
use Rattle.amqp_ser.specs.Tree.{Tree, Trees}
use Rattle.amqp_ser.specs.Compounds.{all_trees, prepend, as_kind, tree_of_parts}
use Rattle.amqp_size.specs.Refused.{refuses_none}
use Rattle.amqp_ser.specs.declared.kind.CompoundKind.{CompoundKind}
use Rattle.amqp_ser.specs.declared.kind.CompoundKind.TheVariants as kinds
use Rattle.amqp_size.specs.Position.{position_of, meant, without_prefix, resolved_kind_of}
use Rattle.amqp_size.specs.SizeSerializer.{AtPosition, HoldsSingle}
use Rattle.amqp_size.specs.WholeContext.{Context}
use Rattle.amqp_size.specs.WholeContext as context
use Rattle.amqp_size.specs.declared.resolved_kind.ResolvedKind.TheVariants as resolved_kinds
use Rattle.amqp_size.specs.declared.serializer.SizeSerializer.{SizeSerializer}
use Rattle.amqp_size.specs.declared.open_compound.OpenCompound.{OpenCompound}
use Rattle.amqp_ser.proofs.Single.{whole_single}
use Rattle.amqp_size.proofs.Positions.{meant_none, refusal}
use Rattle.amqp_size.proofs.Whole.{stands_none}

pub single_kind : (u : Context) (k : CompoundKind) → resolved_kind_of u k ≡ resolved_kinds.Single → k ≡ kinds.Single
single_kind u kinds.Single h = refl
single_kind (context.Unmarked p) kinds.List h = cc
single_kind (context.Unmarked p) kinds.Map h = cc
single_kind (context.Unmarked p) (kinds.Variant i) h = cc
single_kind (context.Unmarked p) (kinds.NewtypeVariant i) h = cc
single_kind (context.Array p) kinds.List h = cc
single_kind (context.Array p) kinds.Map h = cc
single_kind (context.Array p) (kinds.Variant i) h = cc
single_kind (context.Array p) (kinds.NewtypeVariant i) h = cc
single_kind (context.Transparent p) kinds.List h = cc
single_kind (context.Transparent p) kinds.Map h = cc
single_kind (context.Transparent p) (kinds.Variant i) h = cc
single_kind (context.Transparent p) (kinds.NewtypeVariant i) h = cc
single_kind (context.Scalar m p) kinds.List h = cc
single_kind (context.Scalar m p) kinds.Map h = cc
single_kind (context.Scalar m p) (kinds.Variant i) h = cc
single_kind (context.Scalar m p) (kinds.NewtypeVariant i) h = cc
single_kind (context.Nothing p) kinds.List h = cc
single_kind (context.Nothing p) kinds.Map h = cc
single_kind (context.Nothing p) (kinds.Variant i) h = cc
single_kind (context.Nothing p) (kinds.NewtypeVariant i) h = cc

two : (p q : Option Tree) (o : Option Trees) → as_kind kinds.Single (prepend p (prepend q o)) ≡ None
two None q o = refl
two (Some t) None o = refl
two (Some t) (Some u) None = refl
two (Some t) (Some u) (Some us) = refl

-- A single compound of two or more parts has no tree.
pub whole_two : (p q : Option Tree) (ps : List (Option Tree)) → tree_of_parts kinds.Single (p ∷ (q ∷ ps)) ≡ None
unfolding tree_of_parts
whole_two p q ps = two p q (all_trees ps)

-- The errors that are permitted if there is no tree.
no_whole : (start : SizeSerializer) (compound : OpenCompound) (kind : CompoundKind) (qs : List (Option Tree)) (e : SizeError) → without_prefix compound.position ≡ without_prefix (position_of start.context) → kind ≡ kinds.Single → tree_of_parts kinds.Single qs ≡ None → refuses_none e →
    AtPosition (position_of start.context) (meant start.context (tree_of_parts kind qs)) (Err e) (context.Unmarked (without_prefix compound.position))
no_whole start compound kind qs e a k q r =
    stands_none start.context (position_of start.context) (tree_of_parts kind qs) (Err e) (context.Unmarked (without_prefix compound.position)) refl
    (ap (λ k. meant start.context (tree_of_parts k qs)) k ∙ ap (meant start.context) q ∙ meant_none start.context) (r, ap context.Unmarked a)

-- A value that fails.
pub refused_single : (start : SizeSerializer) (kind : CompoundKind) (compound : OpenCompound) (ps : List (Option Tree)) → HoldsSingle start kind compound ps → (p : Option Tree) (e : SizeError) (after : Context) →
    AtPosition (position_of compound.inner_context) (meant compound.inner_context p) (Err e) after → (others : List (Option Tree)) →
    AtPosition (position_of start.context) (meant start.context (tree_of_parts kind (ps ++ (p ∷ others)))) (Err e) (context.Unmarked (without_prefix compound.position))
refused_single start kind compound [] h p e after r [] =
    let here : AtPosition (position_of start.context) (meant start.context p) (Err e) after = subst (λ u. AtPosition (position_of u) (meant u p) (Err e) after) h.parts.1 r in
    let left = refusal (position_of start.context) (meant start.context p) e after here in
    subst (λ (k : CompoundKind). AtPosition (position_of start.context) (meant start.context (tree_of_parts k (p ∷ []))) (Err e) (context.Unmarked (without_prefix compound.position))) (sym h.kind_is)
    (subst (λ o. AtPosition (position_of start.context) (meant start.context o) (Err e) (context.Unmarked (without_prefix compound.position))) (sym (whole_single p))
    (subst (λ a. AtPosition (position_of start.context) (meant start.context p) (Err e) a) (left.1 ∙ ap context.Unmarked (sym h.position)) here))
refused_single start kind compound [] h p e after r (q ∷ qs) = no_whole start compound kind (p ∷ (q ∷ qs)) e h.position h.kind_is (whole_two p q qs) (refusal (position_of compound.inner_context) (meant compound.inner_context p) e after r).0
refused_single start kind compound (v ∷ []) h p e after r others = no_whole start compound kind (v ∷ (p ∷ others)) e h.position h.kind_is (whole_two v p others) (refusal (position_of compound.inner_context) (meant compound.inner_context p) e after r).0
refused_single start kind compound (v ∷ (w ∷ ps)) h p e after r others = absurd h.parts

-- A second value.
pub second_single : (start : SizeSerializer) (kind : CompoundKind) (compound : OpenCompound) (ps : List (Option Tree)) → HoldsSingle start kind compound ps → 1 ≤ compound.count → (p : Option Tree) (others : List (Option Tree)) →
    AtPosition (position_of start.context) (meant start.context (tree_of_parts kind (ps ++ (p ∷ others)))) (Err error.InvalidValue) (context.Unmarked (without_prefix compound.position))
second_single start kind compound [] h some p others = absurd (none h.parts.0 some)
  where
    none : compound.count ≡ 0 → 1 ≤ compound.count → ⊥
    none q r = omega arith
second_single start kind compound (v ∷ []) h some p others = no_whole start compound kind (v ∷ (p ∷ others)) error.InvalidValue h.position h.kind_is (whole_two v p others) tt
second_single start kind compound (v ∷ (w ∷ ps)) h some p others = absurd h.parts

-- The first value.
pub first_single : (start : SizeSerializer) (kind : CompoundKind) (compound new : OpenCompound) (ps : List (Option Tree)) → HoldsSingle start kind compound ps → (p : Option Tree) (size : ℕ) (after : Context) →
    AtPosition (position_of compound.inner_context) (meant compound.inner_context p) (Ok size) after → compound.count ≡ 0 → new.count ≡ 1 → new.sum ≡ size → new.inner_context ≡ after → new.position ≡ compound.position → new.resolved_kind ≡ compound.resolved_kind →
    HoldsSingle start kind new (ps ++ (p ∷ []))
first_single start kind compound new [] h p size after r none one sum inner_context a b =
    let here : AtPosition (position_of start.context) (meant start.context p) (Ok size) after = subst (λ u. AtPosition (position_of u) (meant u p) (Ok size) after) h.parts.1 r in
    record {
      kind_is = h.kind_is;
      position = ap without_prefix a ∙ h.position;
      resolved_kind = b ∙ h.resolved_kind;
      parts = (one, subst (λ n. AtPosition (position_of start.context) (meant start.context p) (Ok n) new.inner_context) (sym sum) (subst (λ i. AtPosition (position_of start.context) (meant start.context p) (Ok size) i) (sym inner_context) here));
    }
first_single start kind compound new (v ∷ []) h p size after r none one sum inner_context a b = absurd (some h.parts.0 none)
  where
    some : compound.count ≡ 1 → compound.count ≡ 0 → ⊥
    some q r = omega arith
first_single start kind compound new (v ∷ (w ∷ ps)) h p size after r none one sum inner_context a b = absurd h.parts
