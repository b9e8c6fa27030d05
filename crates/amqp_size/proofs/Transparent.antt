-- An open transparent vector.
use Rattle.std.proofs.Common.{◌≡◌, ℕ, ◌+◌, ◌<◌, List, [], ◌∷◌, ◌++◌, Option, Some, None, true, false, ◌&&◌, Err, length, refl, ap, sym, ◌∙◌, subst, arith, length-append, ◌⊎◌, inl, inr}
use Rattle.amqp_size.specs.declared.size_error.SizeError.{SizeError}
use Rattle.amqp_size.specs.declared.size_error.SizeError.TheVariants as error
use Rattle.amqp_ser.specs.Tree.{Tree, Trees, transparent, no_trees, more}
use Rattle.amqp_ser.specs.Limits.{is_length}
use Rattle.amqp_ser.specs.Encoding.{encoding, encoding_each}
use Rattle.amqp_ser.specs.Writable.{uniform_arrays, uniform_arrays_each, within_limits, within_limits_each, placed, placed_each}
use Rattle.amqp_ser.specs.Compounds.{all_trees, prepend, as_kind, tree_of_parts}
use Rattle.amqp_size.specs.Refused.{refuses_none}
use Rattle.amqp_ser.specs.declared.kind.CompoundKind.{CompoundKind}
use Rattle.amqp_ser.specs.declared.kind.CompoundKind.TheVariants as kinds
use Rattle.amqp_ser.proofs.Bools.{both, and_assoc, left_false, right_false, one_false, le_false}
use Rattle.amqp_ser.proofs.Joins.{join, joined, all_trees-append, encoding_each-join, uniform_arrays-join, within_limits-join, ranged-join}
use Rattle.amqp_size.specs.Position.{position_of, meant, without_prefix, suits, resolved_kind_of, takes_described}
use Rattle.amqp_size.specs.SizeSerializer.{AtPosition, refused, Counted, HoldsTransparent}
use Rattle.amqp_size.specs.WholePosition.{Position}
use Rattle.amqp_size.specs.WholePosition.{Root, InCompound, FirstElement, OtherElement, Descriptor, Value}
use Rattle.amqp_size.specs.WholeContext.{Context}
use Rattle.amqp_size.specs.WholeContext as context
use Rattle.amqp_size.specs.declared.resolved_kind.ResolvedKind.TheVariants as resolved_kind
use Rattle.amqp_size.specs.declared.serializer.SizeSerializer.{SizeSerializer}
use Rattle.amqp_size.specs.declared.open_compound.OpenCompound.{OpenCompound}
use Rattle.amqp_size.proofs.Positions.{long_at, meant_none, refusal}
use Rattle.amqp_size.proofs.Whole.{stands, stands_none}

pub placed-join : (ts us : Trees) → placed_each (join ts us) ≡ (placed_each ts && placed_each us)
placed-join no_trees us = refl
placed-join (more t ts) us = ap (λ b. placed t && b) (placed-join ts us) ∙ sym (and_assoc (placed t) (placed_each ts) (placed_each us))

pub transparent_shape : (u : Context) (k : CompoundKind) → resolved_kind_of u k ≡ resolved_kind.Transparent → (u ≡ context.Transparent (position_of u)) × (k ≡ kinds.List)
transparent_shape u kinds.Single h = cc
transparent_shape (context.Unmarked p) kinds.List h = cc
transparent_shape (context.Unmarked p) kinds.Map h = cc
transparent_shape (context.Unmarked p) (kinds.Variant i) h = cc
transparent_shape (context.Unmarked p) (kinds.NewtypeVariant i) h = cc
transparent_shape (context.Array p) kinds.List h = cc
transparent_shape (context.Array p) kinds.Map h = cc
transparent_shape (context.Array p) (kinds.Variant i) h = cc
transparent_shape (context.Array p) (kinds.NewtypeVariant i) h = cc
transparent_shape (context.Transparent p) kinds.List h = (refl, refl)
transparent_shape (context.Transparent p) kinds.Map h = cc
transparent_shape (context.Transparent p) (kinds.Variant i) h = cc
transparent_shape (context.Transparent p) (kinds.NewtypeVariant i) h = cc
transparent_shape (context.Scalar m p) kinds.List h = cc
transparent_shape (context.Scalar m p) kinds.Map h = cc
transparent_shape (context.Scalar m p) (kinds.Variant i) h = cc
transparent_shape (context.Scalar m p) (kinds.NewtypeVariant i) h = cc
transparent_shape (context.Nothing p) kinds.List h = cc
transparent_shape (context.Nothing p) kinds.Map h = cc
transparent_shape (context.Nothing p) (kinds.Variant i) h = cc
transparent_shape (context.Nothing p) (kinds.NewtypeVariant i) h = cc

-- The tree of a transparent vector with these elements.
pub transparent_whole : (start : SizeSerializer) (kind : CompoundKind) (compound : OpenCompound) (ps : List (Option Tree)) (h : HoldsTransparent start kind compound ps) (qs : List (Option Tree)) (ws : Trees) → all_trees qs ≡ Some ws →
    meant start.context (tree_of_parts kind qs) ≡ Some (transparent ws)
unfolding tree_of_parts
transparent_whole start kind compound ps h qs ws e =
    let inv = transparent_shape start.context kind h.shaped in
    ap (λ u. meant u (tree_of_parts kind qs)) inv.0 ∙ ap (λ k. meant (context.Transparent (position_of start.context)) (as_kind k (all_trees qs))) inv.1 ∙ ap (λ o. meant (context.Transparent (position_of start.context)) (as_kind kinds.List o)) e

-- An element that is accepted.
pub taken_transparent : (start : SizeSerializer) (kind : CompoundKind) (compound new : OpenCompound) (ps : List (Option Tree)) → HoldsTransparent start kind compound ps → (t : Tree) (size : ℕ) (after : Context) → Counted Root t size after →
    new.position ≡ compound.position → new.resolved_kind ≡ compound.resolved_kind → new.sum ≡ size + compound.sum → new.inner_context ≡ compound.inner_context → HoldsTransparent start kind new (ps ++ (Some t ∷ []))
taken_transparent start kind compound new ps h t size after k a b d f =
    let us = join h.ts (more t no_trees) in
    let bytes : length (encoding_each us) ≡ length (encoding_each h.ts) + length (encoding t) = simp (encoding_each-join, length-append) (omega arith) in
    let len = k.len in
    let sum = h.sum in
    record {
      ts = us;
      trees = all_trees-append ps (Some t ∷ []) ∙ ap (λ o. joined o (Some (more t no_trees))) h.trees;
      kind_is = h.kind_is;
      position = a ∙ h.position;
      resolved_kind = b ∙ h.resolved_kind;
      shaped = h.shaped;
      sum = omega arith;
      inner_context = f ∙ h.inner_context;
      uniform_arrays_parts = uniform_arrays-join h.ts (more t no_trees) ∙ both (uniform_arrays_each h.ts) (uniform_arrays t && true) h.uniform_arrays_parts (both (uniform_arrays t) true k.uniform_arrays_it refl);
      within_limits_parts = within_limits-join h.ts (more t no_trees) ∙ both (within_limits_each h.ts) (within_limits t && true) h.within_limits_parts (both (within_limits t) true k.within_limits_it refl);
      placed_parts = placed-join h.ts (more t no_trees) ∙ both (placed_each h.ts) (placed t && true) h.placed_parts (both (placed t) true k.suited refl);
      ranged_parts = ranged-join h.ts (more t no_trees) h.ranged_parts (k.ranged, tt);
    }

-- Only the root accepts it.
root_alone : (p : Position) (ts : Trees) → (p ≡ Root) ⊎ (suits p (transparent ts) ≡ false)
root_alone Root ts = inl refl
root_alone InCompound ts = inr refl
root_alone FirstElement ts = inr refl
root_alone (OtherElement c) ts = inr refl
root_alone Descriptor ts = inr refl
root_alone (Value n b) ts = inr (right_false (takes_described b) false refl)

-- The transparent vector of these elements may fail with this error.
abbrev pub bad_each : Trees → SizeError → Type 0
bad_each ws error.TooLong = (is_length (length (encoding_each ws)) && within_limits_each ws) ≡ false
bad_each ws error.InvalidValue = (uniform_arrays_each ws && placed_each ws) ≡ false
bad_each ws e = ⊥

pub unwritable_transparent : (p : Position) (ws : Trees) (e : SizeError) → bad_each ws e → AtPosition p (Some (transparent ws)) (Err e) (context.Unmarked (without_prefix p))
unwritable_transparent p ws error.TooLong h = (long_at p (transparent ws) h, refl)
unwritable_transparent p ws error.InvalidValue h = elim (root_alone p ws) [
  | inl q ↦ (subst (λ x. (uniform_arrays_each ws && suits x (transparent ws)) ≡ false) (sym q) h, refl)
  | inr s ↦ (right_false (uniform_arrays_each ws) (suits p (transparent ws)) s, refl)
]
unwritable_transparent p ws e h = absurd h

go : (start : SizeSerializer) (kind : CompoundKind) (compound : OpenCompound) (ps : List (Option Tree)) → HoldsTransparent start kind compound ps → (qs : List (Option Tree)) (o : Option Trees) → all_trees qs ≡ o → (e : SizeError) → refuses_none e → ((ws : Trees) → o ≡ Some ws → bad_each ws e) →
    AtPosition (position_of start.context) (meant start.context (tree_of_parts kind qs)) (Err e) (context.Unmarked (without_prefix (position_of start.context)))
unfolding tree_of_parts
go start kind compound ps h qs None q e r bad =
    stands_none start.context (position_of start.context) (tree_of_parts kind qs) (Err e) (context.Unmarked (without_prefix (position_of start.context))) refl
    (ap (λ k. meant start.context (as_kind k (all_trees qs))) h.kind_is ∙ ap (λ o. meant start.context (as_kind kinds.List o)) q ∙ meant_none start.context) (r, refl)
go start kind compound ps h qs (Some ws) q e r bad =
    stands start.context (position_of start.context) (tree_of_parts kind qs) (transparent ws) (Err e) (context.Unmarked (without_prefix (position_of start.context))) refl
    (transparent_whole start kind compound ps h qs ws q) (unwritable_transparent (position_of start.context) ws e (bad ws refl))

after : (ts : Trees) (p : Option Tree) (o : Option Trees) (ws : Trees) → joined (Some ts) (prepend p o) ≡ Some ws → (t : Tree) × ((us : Trees) × ((p ≡ Some t) × (ws ≡ join ts (more t us))))
after ts None o ws q = cc
after ts (Some t) None ws q = cc
after ts (Some t) (Some us) ws q = (t, (us, (refl, cc)))

-- If the next element is invalid, every vector that continues with it may fail with the error.
unwritable_vector : (start : SizeSerializer) (kind : CompoundKind) (compound : OpenCompound) (ps : List (Option Tree)) (h : HoldsTransparent start kind compound ps) (p : Option Tree) (e : SizeError) → refuses_none e → ((t : Tree) (us : Trees) → p ≡ Some t → bad_each (join h.ts (more t us)) e) →
    (others : List (Option Tree)) → AtPosition (position_of start.context) (meant start.context (tree_of_parts kind (ps ++ (p ∷ others)))) (Err e) (context.Unmarked (without_prefix compound.position))
unwritable_vector start kind compound ps h p e r bad others =
    let trees : all_trees (ps ++ (p ∷ others)) ≡ joined (Some h.ts) (prepend p (all_trees others)) = all_trees-append ps (p ∷ others) ∙ ap (λ o. joined o (prepend p (all_trees others))) h.trees in
    subst (λ q. AtPosition (position_of start.context) (meant start.context (tree_of_parts kind (ps ++ (p ∷ others)))) (Err e) (context.Unmarked (without_prefix q))) (sym h.position)
    (go start kind compound ps h (ps ++ (p ∷ others)) (joined (Some h.ts) (prepend p (all_trees others))) trees e r
    (λ ws q. let a = after h.ts p (all_trees others) ws q in subst (λ x. bad_each x e) (sym a.1.1.1) (bad a.0 a.1.0 a.1.1.0)))

pub part_bad : (ts : Trees) (t : Tree) (us : Trees) (e : SizeError) → refused Root t e → bad_each (join ts (more t us)) e
part_bad ts t us error.TooLong h = right_false (is_length (length (encoding_each (join ts (more t us))))) (within_limits_each (join ts (more t us)))
    (within_limits-join ts (more t us) ∙ right_false (within_limits_each ts) (within_limits t && within_limits_each us) (left_false (within_limits t) (within_limits_each us) h))
part_bad ts t us error.InvalidValue h = elim (one_false (uniform_arrays t) (placed t) h) [
  | inl a ↦ left_false (uniform_arrays_each (join ts (more t us))) _ (uniform_arrays-join ts (more t us) ∙ right_false (uniform_arrays_each ts) (uniform_arrays t && uniform_arrays_each us) (left_false (uniform_arrays t) (uniform_arrays_each us) a))
  | inr b ↦ right_false (uniform_arrays_each (join ts (more t us))) _ (placed-join ts (more t us) ∙ right_false (placed_each ts) (placed t && placed_each us) (left_false (placed t) (placed_each us) b))
]
part_bad ts t us e h = absurd h

some_same : (t v : Tree) → Some t ≡ Some v → t ≡ v
some_same t v q = cc

pub refused_transparent : (start : SizeSerializer) (kind : CompoundKind) (compound : OpenCompound) (ps : List (Option Tree)) → HoldsTransparent start kind compound ps → (p : Option Tree) (e : SizeError) (after : Context) → AtPosition Root p (Err e) after →
    (others : List (Option Tree)) → AtPosition (position_of start.context) (meant start.context (tree_of_parts kind (ps ++ (p ∷ others)))) (Err e) (context.Unmarked (without_prefix compound.position))
refused_transparent start kind compound ps h None e after r others = unwritable_vector start kind compound ps h None e r.0 (λ t us q. cc) others
refused_transparent start kind compound ps h (Some t) e after r others =
    let none = refusal Root (Some t) e after r in
    unwritable_vector start kind compound ps h (Some t) e none.0 (λ v us q. subst (λ x. bad_each (join h.ts (more x us)) e) (some_same t v q) (part_bad h.ts t us e r.0)) others

pub over_transparent : (start : SizeSerializer) (kind : CompoundKind) (compound : OpenCompound) (ps : List (Option Tree)) → HoldsTransparent start kind compound ps → (t : Tree) (size : ℕ) → size ≡ length (encoding t) → 18446744073709551615 < size + compound.sum →
    (others : List (Option Tree)) → AtPosition (position_of start.context) (meant start.context (tree_of_parts kind (ps ++ (Some t ∷ others)))) (Err error.TooLong) (context.Unmarked (without_prefix compound.position))
over_transparent start kind compound ps h t size len past others =
    unwritable_vector start kind compound ps h (Some t) error.TooLong tt (λ v us q. subst (λ x. bad_each (join h.ts (more x us)) error.TooLong) (some_same t v q) (too_long us)) others
  where
    too_long : (us : Trees) → bad_each (join h.ts (more t us)) error.TooLong
    too_long us =
        let bytes : length (encoding_each (join h.ts (more t us))) ≡ length (encoding_each h.ts) + (length (encoding t) + length (encoding_each us)) = simp (encoding_each-join, length-append) refl in
        let sum = h.sum in
        left_false (is_length (length (encoding_each (join h.ts (more t us))))) _ (le_false (length (encoding_each (join h.ts (more t us)))) 18446744073709551615 (omega arith))
