-- Parts for which every compound that contains them fails.
use Rattle.std.proofs.Common.{◌≡◌, ℕ, ◌+◌, ◌<◌, List, [], ◌∷◌, ◌++◌, Option, Some, None, Bool, true, false, not, ◌&&◌, Err, length, refl, ap, sym, ◌∙◌, subst, arith, length-append, inl, inr}
use Rattle.std.proofs.lemmas.Bool.{not-true, not-false}
use Rattle.amqp_size.specs.declared.size_error.SizeError.{SizeError}
use Rattle.amqp_size.specs.declared.size_error.SizeError.TheVariants as error
use Rattle.amqp_ser.specs.Tree.{uint, Tree, Trees, list, array, map, variant, no_trees, more}
use Rattle.amqp_ser.specs.Limits.{fits, is_count}
use Rattle.amqp_ser.specs.Scalars.{scalar_form}
use Rattle.amqp_ser.specs.Encoding.{encoding, encoding_each}
use Rattle.amqp_ser.specs.Writable.{one_constructor, uniform_arrays, uniform_arrays_each, uniform_arrays_pairs, within_limits, within_limits_each, within_limits_pairs, inside, inside_each, inside_pairs, placed}
use Rattle.amqp_ser.specs.Compounds.{all_trees, prepend, as_kind, as_map, as_variant, in_pairs, only, tree_of_parts}
use Rattle.amqp_size.specs.Refused.{refuses_none}
use Rattle.amqp_ser.specs.declared.kind.CompoundKind.{CompoundKind}
use Rattle.amqp_ser.specs.declared.kind.CompoundKind.TheVariants as kinds
use Rattle.amqp_ser.proofs.Bools.{and_assoc, left_false, right_false, one_false, le_false, not_le}
use Rattle.amqp_ser.proofs.Joins.{join, joined, all_trees-append, kind_none}
use Rattle.amqp_ser.proofs.Pairing.{pairing, even}
use Rattle.amqp_size.specs.Position.{position_of, meant, without_prefix, resolved_kind_of, is_array, is_gathered, suits}
use Rattle.amqp_size.specs.SizeSerializer.{AtPosition, HoldsGathered, body_bytes, counts, one_in}
use Rattle.amqp_size.specs.WholePosition.{Position}
use Rattle.amqp_size.specs.WholeContext.{Context}
use Rattle.amqp_size.specs.WholeContext as context
use Rattle.amqp_size.specs.declared.resolved_kind.ResolvedKind.TheVariants as resolved_kind
use Rattle.amqp_size.specs.declared.serializer.SizeSerializer.{SizeSerializer}
use Rattle.amqp_size.specs.declared.open_compound.OpenCompound.{OpenCompound}
use Rattle.amqp_size.proofs.Positions.{long_at, not_inside, meant_none}
use Rattle.amqp_size.proofs.Whole.{stands_none, refused_shape}

-- The compound of these parts may fail with this error.
abbrev pub bad_in : Bool → Trees → SizeError → Type 0
bad_in arr ws error.TooLong = (fits (length (body_bytes arr ws)) && (is_count (counts arr ws) && within_limits_each ws)) ≡ false
bad_in arr ws error.InvalidValue = (one_in arr ws && (uniform_arrays_each ws && inside_each ws)) ≡ false
bad_in arr ws e = ⊥

-- No position accepts a tree with a mixed array, or with something transparent inside.
unwritable : (p : Position) (t : Tree) → placed t ≡ inside t → (uniform_arrays t && inside t) ≡ false → (uniform_arrays t && suits p t) ≡ false
unwritable p t e h = elim (one_false (uniform_arrays t) (inside t) h) [
  | inl a ↦ left_false (uniform_arrays t) (suits p t) a
  | inr b ↦ right_false (uniform_arrays t) (suits p t) (not_inside p t e b)
]

pub odd_none : (ws : Trees) → even ws ≡ false → in_pairs ws ≡ None
odd_none no_trees h = cc
odd_none (more k no_trees) h = refl
odd_none (more k (more v ts)) h = let e = odd_none ts (not-true (even ts) (not-false (not (even ts)) h)) in rw e refl

-- If there is no map, every error is permitted that is permitted for no tree.
none_map : (p : Position) (ws : Trees) (e : SizeError) → refuses_none e → even ws ≡ false → AtPosition p (as_map (in_pairs ws)) (Err e) (context.Unmarked (without_prefix p))
none_map p ws e r q = subst (λ o. AtPosition p (as_map o) (Err e) (context.Unmarked (without_prefix p))) (sym (odd_none ws q)) (r, refl)

long_map : (p : Position) (ws : Trees) → bad_in false ws error.TooLong → (b : Bool) → even ws ≡ b → AtPosition p (as_map (in_pairs ws)) (Err error.TooLong) (context.Unmarked (without_prefix p))
long_map p ws h false q = none_map p ws error.TooLong tt q
long_map p ws h true q =
    let r = pairing ws q in
    let e : within_limits (map r.pairs) ≡ false = ap (λ bs. fits (length bs) && within_limits_pairs r.pairs) r.bytes ∙ ap (λ b. fits (length (encoding_each ws)) && b) r.within_too ∙ h in
    subst (λ o. AtPosition p (as_map o) (Err error.TooLong) (context.Unmarked (without_prefix p))) (sym r.are) (long_at p (map r.pairs) e, refl)

bad_map : (p : Position) (ws : Trees) → (uniform_arrays_each ws && inside_each ws) ≡ false → (b : Bool) → even ws ≡ b → AtPosition p (as_map (in_pairs ws)) (Err error.InvalidValue) (context.Unmarked (without_prefix p))
bad_map p ws h false q = none_map p ws error.InvalidValue tt q
bad_map p ws h true q =
    let r = pairing ws q in
    let e : (uniform_arrays_pairs r.pairs && inside_pairs r.pairs) ≡ false = ap (λ b. b && inside_pairs r.pairs) r.alike_too ∙ ap (λ b. uniform_arrays_each ws && b) r.inside_too ∙ h in
    subst (λ o. AtPosition p (as_map o) (Err error.InvalidValue) (context.Unmarked (without_prefix p))) (sym r.are) (unwritable p (map r.pairs) refl e, refl)

and_true : (b : Bool) → (b && true) ≡ false → b ≡ false
and_true true h = h
and_true false h = refl

long_one : (i : ℕ) (t : Tree) → (fits (length (encoding t ++ [])) && (within_limits t && true)) ≡ false → within_limits (variant i t) ≡ false
long_one i t h = elim (one_false (fits (length (encoding t ++ []))) (within_limits t && true) h) [
  | inl a ↦
      let past : 4294967291 < length (encoding t ++ []) = not_le _ _ a in
      let e : length (encoding t ++ []) ≡ length (encoding t) + 0 = length-append (encoding t) [] in
      let f : length (scalar_form (uint i) ++ encoding t) ≡ length (scalar_form (uint i)) + length (encoding t) = length-append (scalar_form (uint i)) (encoding t) in
      left_false _ (within_limits t) (le_false (length (scalar_form (uint i) ++ encoding t)) 4294967291 (omega arith))
  | inr b ↦ right_false (fits (length (scalar_form (uint i) ++ encoding t))) (within_limits t) (and_true (within_limits t) b)
]

bad_one : (p : Position) (i : ℕ) (t : Tree) → ((uniform_arrays t && true) && (inside t && true)) ≡ false → (uniform_arrays t && suits p (variant i t)) ≡ false
bad_one p i t h = unwritable p (variant i t) refl (elim (one_false (uniform_arrays t && true) (inside t && true) h) [
  | inl a ↦ left_false (uniform_arrays t) (inside t) (and_true (uniform_arrays t) a)
  | inr b ↦ right_false (uniform_arrays t) (inside t) (and_true (inside t) b)
])

long_only : (p : Position) (i : ℕ) (ws : Trees) → bad_in false ws error.TooLong → AtPosition p (as_variant i (only ws)) (Err error.TooLong) (context.Unmarked (without_prefix p))
long_only p i no_trees h = (tt, refl)
long_only p i (more t no_trees) h = (long_at p (variant i t) (long_one i t h), refl)
long_only p i (more t (more v ts)) h = (tt, refl)

bad_only : (p : Position) (i : ℕ) (ws : Trees) → (uniform_arrays_each ws && inside_each ws) ≡ false → AtPosition p (as_variant i (only ws)) (Err error.InvalidValue) (context.Unmarked (without_prefix p))
bad_only p i no_trees h = (tt, refl)
bad_only p i (more t no_trees) h = (bad_one p i t h, refl)
bad_only p i (more t (more v ts)) h = (tt, refl)

-- The same if the pending marker does not accept the kind: there is no tree.
none_bad : (u : Context) (o : Option Tree) (e : SizeError) → refuses_none e → meant u o ≡ None → AtPosition (position_of u) (meant u o) (Err e) (context.Unmarked (without_prefix (position_of u)))
none_bad u o e r h = stands_none u (position_of u) o (Err e) (context.Unmarked (without_prefix (position_of u))) refl h (r, refl)

bad_none : (arr : Bool) (ws : Trees) (e : SizeError) → bad_in arr ws e → refuses_none e
bad_none arr ws error.TooLong h = tt
bad_none arr ws error.InvalidValue h = tt
bad_none arr ws e h = absurd h

shapeless : (arr : Bool) (u : Context) (k : CompoundKind) (ws : Trees) (e : SizeError) → bad_in arr ws e → resolved_kind_of u k ≡ resolved_kind.Refused → AtPosition (position_of u) (meant u (as_kind k (Some ws))) (Err e) (context.Unmarked (without_prefix (position_of u)))
shapeless arr u k ws e b h = none_bad u (as_kind k (Some ws)) e (bad_none arr ws e b) (refused_shape u k (Some ws) h)

unwritable_list : (p : Position) (ws : Trees) (e : SizeError) → bad_in false ws e → AtPosition p (Some (list ws)) (Err e) (context.Unmarked (without_prefix p))
unwritable_list p ws error.TooLong h = (long_at p (list ws) h, refl)
unwritable_list p ws error.InvalidValue h = (unwritable p (list ws) refl h, refl)
unwritable_list p ws e h = absurd h

unwritable_array : (p : Position) (ws : Trees) (e : SizeError) → bad_in true ws e → AtPosition p (Some (array ws)) (Err e) (context.Unmarked (without_prefix p))
unwritable_array p ws error.TooLong h = (long_at p (array ws) h, refl)
unwritable_array p ws error.InvalidValue h = (unwritable p (array ws) refl (and_assoc (one_constructor ws) (uniform_arrays_each ws) (inside_each ws) ∙ h), refl)
unwritable_array p ws e h = absurd h

unwritable_map : (p : Position) (ws : Trees) (e : SizeError) → bad_in false ws e → AtPosition p (as_map (in_pairs ws)) (Err e) (context.Unmarked (without_prefix p))
unwritable_map p ws error.TooLong h = long_map p ws h (even ws) refl
unwritable_map p ws error.InvalidValue h = bad_map p ws h (even ws) refl
unwritable_map p ws e h = absurd h

unwritable_fields : (p : Position) (i : ℕ) (ws : Trees) (e : SizeError) → bad_in false ws e → AtPosition p (Some (variant i (list ws))) (Err e) (context.Unmarked (without_prefix p))
unwritable_fields p i ws error.TooLong h = (long_at p (variant i (list ws)) (right_false (fits (length (scalar_form (uint i) ++ encoding (list ws)))) (within_limits (list ws)) h), refl)
unwritable_fields p i ws error.InvalidValue h = (unwritable p (variant i (list ws)) refl h, refl)
unwritable_fields p i ws e h = absurd h

unwritable_only : (p : Position) (i : ℕ) (ws : Trees) (e : SizeError) → bad_in false ws e → AtPosition p (as_variant i (only ws)) (Err e) (context.Unmarked (without_prefix p))
unwritable_only p i ws error.TooLong h = long_only p i ws h
unwritable_only p i ws error.InvalidValue h = bad_only p i ws h
unwritable_only p i ws e h = absurd h

-- A compound of such parts may fail with the error.
unwritable_whole : (u : Context) (k : CompoundKind) (ws : Trees) (e : SizeError) → is_gathered (resolved_kind_of u k) ≡ true → bad_in (is_array (resolved_kind_of u k)) ws e → AtPosition (position_of u) (meant u (as_kind k (Some ws))) (Err e) (context.Unmarked (without_prefix (position_of u)))
unwritable_whole u kinds.Single ws e g h = cc
unwritable_whole (context.Unmarked p) kinds.List ws e g h = unwritable_list p ws e h
unwritable_whole (context.Unmarked p) kinds.Map ws e g h = unwritable_map p ws e h
unwritable_whole (context.Unmarked p) (kinds.Variant i) ws e g h = unwritable_fields p i ws e h
unwritable_whole (context.Unmarked p) (kinds.NewtypeVariant i) ws e g h = unwritable_only p i ws e h
unwritable_whole (context.Array p) kinds.List ws e g h = unwritable_array p ws e h
unwritable_whole (context.Transparent p) kinds.List ws e g h = cc
unwritable_whole (context.Array p) kinds.Map ws e g h = shapeless false (context.Array p) kinds.Map ws e h refl
unwritable_whole (context.Array p) (kinds.Variant i) ws e g h = shapeless false (context.Array p) (kinds.Variant i) ws e h refl
unwritable_whole (context.Array p) (kinds.NewtypeVariant i) ws e g h = shapeless false (context.Array p) (kinds.NewtypeVariant i) ws e h refl
unwritable_whole (context.Transparent p) kinds.Map ws e g h = shapeless false (context.Transparent p) kinds.Map ws e h refl
unwritable_whole (context.Transparent p) (kinds.Variant i) ws e g h = shapeless false (context.Transparent p) (kinds.Variant i) ws e h refl
unwritable_whole (context.Transparent p) (kinds.NewtypeVariant i) ws e g h = shapeless false (context.Transparent p) (kinds.NewtypeVariant i) ws e h refl
unwritable_whole (context.Scalar m p) kinds.List ws e g h = shapeless false (context.Scalar m p) kinds.List ws e h refl
unwritable_whole (context.Scalar m p) kinds.Map ws e g h = shapeless false (context.Scalar m p) kinds.Map ws e h refl
unwritable_whole (context.Scalar m p) (kinds.Variant i) ws e g h = shapeless false (context.Scalar m p) (kinds.Variant i) ws e h refl
unwritable_whole (context.Scalar m p) (kinds.NewtypeVariant i) ws e g h = shapeless false (context.Scalar m p) (kinds.NewtypeVariant i) ws e h refl
unwritable_whole (context.Nothing p) kinds.List ws e g h = shapeless false (context.Nothing p) kinds.List ws e h refl
unwritable_whole (context.Nothing p) kinds.Map ws e g h = shapeless false (context.Nothing p) kinds.Map ws e h refl
unwritable_whole (context.Nothing p) (kinds.Variant i) ws e g h = shapeless false (context.Nothing p) (kinds.Variant i) ws e h refl
unwritable_whole (context.Nothing p) (kinds.NewtypeVariant i) ws e g h = shapeless false (context.Nothing p) (kinds.NewtypeVariant i) ws e h refl

-- A compound with one such part may fail with the error.
pub unwritable_rest : (u : Context) (k : CompoundKind) (ts : Trees) (e : SizeError) → is_gathered (resolved_kind_of u k) ≡ true → refuses_none e → (p : Option Tree) (o : Option Trees) → ((t : Tree) (us : Trees) → p ≡ Some t → bad_in (is_array (resolved_kind_of u k)) (join ts (more t us)) e) →
    AtPosition (position_of u) (meant u (as_kind k (joined (Some ts) (prepend p o)))) (Err e) (context.Unmarked (without_prefix (position_of u)))
unwritable_rest u k ts e g r None o bad = none_bad u (as_kind k None) e r (ap (meant u) (kind_none k) ∙ meant_none u)
unwritable_rest u k ts e g r (Some t) None bad = none_bad u (as_kind k None) e r (ap (meant u) (kind_none k) ∙ meant_none u)
unwritable_rest u k ts e g r (Some t) (Some us) bad = unwritable_whole u k (join ts (more t us)) e g (bad t us refl)

-- If the next part is one, every compound that continues with it may fail with the error.
pub with_rest : (start : SizeSerializer) (kind : CompoundKind) (compound : OpenCompound) (ps : List (Option Tree)) (h : HoldsGathered start kind compound ps) (p : Option Tree) (e : SizeError) → refuses_none e →
    ((t : Tree) (us : Trees) → p ≡ Some t → bad_in (is_array compound.resolved_kind) (join h.ts (more t us)) e) → (others : List (Option Tree)) →
    AtPosition (position_of start.context) (meant start.context (tree_of_parts kind (ps ++ (p ∷ others)))) (Err e) (context.Unmarked (without_prefix compound.position))
unfolding tree_of_parts
with_rest start kind compound ps h p e r bad others =
    let u = start.context in
    let arr : is_array compound.resolved_kind ≡ is_array (resolved_kind_of u kind) = ap is_array h.resolved_kind in
    let trees : all_trees (ps ++ (p ∷ others)) ≡ joined (Some h.ts) (prepend p (all_trees others)) = all_trees-append ps (p ∷ others) ∙ ap (λ o. joined o (prepend p (all_trees others))) h.trees in
    let here = unwritable_rest u kind h.ts e (sym (ap is_gathered h.resolved_kind) ∙ h.gathered) r p (all_trees others) (λ t us q. subst (λ a. bad_in a (join h.ts (more t us)) e) arr (bad t us q)) in
    subst (λ q. AtPosition (position_of u) (meant u (tree_of_parts kind (ps ++ (p ∷ others)))) (Err e) (context.Unmarked (without_prefix q))) (sym h.position)
    (subst (λ o. AtPosition (position_of u) (meant u (as_kind kind o)) (Err e) (context.Unmarked (without_prefix (position_of u)))) (sym trees) here)
