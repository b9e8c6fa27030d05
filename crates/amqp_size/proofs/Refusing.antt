-- A part that fails, and a part that exceeds a limit.
use Rattle.std.proofs.Common.{◌≡◌, ℕ, ◌+◌, List, ◌∷◌, ◌++◌, Option, Some, None, Bool, true, false, ◌&&◌, Err, length, refl, ap, sym, ◌∙◌, subst, arith, ◌⊎◌, inl, inr, is_some}
use Rattle.amqp_size.specs.declared.size_error.SizeError.{SizeError}
use Rattle.amqp_size.specs.declared.size_error.SizeError.TheVariants as error
use Rattle.amqp_ser.specs.Tree.{Tree, Trees, no_trees, more, count}
use Rattle.amqp_ser.specs.Limits.{fits, is_count}
use Rattle.amqp_ser.specs.Encoding.{constructor}
use Rattle.amqp_ser.specs.Writable.{same_constructor, each_constructor, uniform_arrays, uniform_arrays_each, within_limits, within_limits_each, inside, inside_each}
use Rattle.amqp_ser.specs.Compounds.{tree_of_parts}
use Rattle.amqp_ser.specs.declared.kind.CompoundKind.{CompoundKind}
use Rattle.amqp_ser.proofs.Bools.{left_false, right_false, one_false, left_true, le_false}
use Rattle.amqp_ser.proofs.Joins.{join, uniform_arrays-join, within_limits-join, inside-join, each-join, count-join}
use Rattle.amqp_size.specs.Position.{position_of, meant, without_prefix, is_array, element, next, suits, form}
use Rattle.amqp_size.specs.SizeSerializer.{AtPosition, refused, HoldsGathered, body_bytes, counts, one_in, inner_position_of}
use Rattle.amqp_size.specs.AddPart.{constructor_len, PassesLimit}
use Rattle.amqp_size.specs.WholeContext.{Context}
use Rattle.amqp_size.specs.WholeContext as context
use Rattle.amqp_size.specs.declared.serializer.SizeSerializer.{SizeSerializer}
use Rattle.amqp_size.specs.declared.open_compound.OpenCompound.{OpenCompound}
use Rattle.amqp_size.proofs.Joined.{body_bytes-join, some_con}
use Rattle.amqp_size.proofs.Positions.{within_inner, refused-none}
use Rattle.amqp_size.proofs.Unwritable.{bad_in, with_rest}

not_some : (o d : Option ℕ) → is_some o ≡ false → same_constructor o d ≡ false
not_some None d h = refl
not_some (Some c) d h = cc

not_inside_join : (ts : Trees) (t : Tree) (us : Trees) → inside t ≡ false → inside_each (join ts (more t us)) ≡ false
not_inside_join ts t us h = inside-join ts (more t us) ∙ right_false (inside_each ts) (inside t && inside_each us) (left_false (inside t) (inside_each us) h)

-- If the position rejects one part, the parts are invalid: it has another constructor, or a
-- transparent tree inside.
not_suited : (arr : Bool) (ts : Trees) (t : Tree) (us : Trees) → one_in arr ts ≡ true → suits (inner_position_of arr ts) t ≡ false →
    (one_in arr (join ts (more t us)) ≡ false) ⊎ (inside_each (join ts (more t us)) ≡ false)
not_suited false ts t us h s = inr (not_inside_join ts t us s)
not_suited true no_trees t us h s = elim (one_false (is_some (constructor t)) (inside t) s) [
  | inl a ↦ inl (left_false (same_constructor (constructor t) (constructor t)) (each_constructor (constructor t) us) (not_some (constructor t) (constructor t) a))
  | inr b ↦ inr (not_inside_join no_trees t us b)
]
not_suited true (more v ts) t us h s =
    let c = some_con (constructor v) (left_true (same_constructor (constructor v) (constructor v)) (each_constructor (constructor v) ts) h) in
    let there : (same_constructor (constructor v) (constructor t) && inside t) ≡ false = ap (λ o. same_constructor o (constructor t) && inside t) c.1 ∙ sym (ap (λ o. suits (element o) t) c.1) ∙ s in
    elim (one_false (same_constructor (constructor v) (constructor t)) (inside t) there) [
      | inl other ↦ inl (right_false (same_constructor (constructor v) (constructor v)) (each_constructor (constructor v) (join ts (more t us)))
          (each-join (constructor v) ts (more t us) ∙ right_false (each_constructor (constructor v) ts) (same_constructor (constructor v) (constructor t) && each_constructor (constructor v) us) (left_false (same_constructor (constructor v) (constructor t)) (each_constructor (constructor v) us) other)))
      | inr b ↦ inr (not_inside_join (more v ts) t us b)
    ]

-- With one invalid part, the parts are invalid.
pub part_bad : (arr : Bool) (ts : Trees) (t : Tree) (us : Trees) (e : SizeError) → one_in arr ts ≡ true → refused (inner_position_of arr ts) t e → bad_in arr (join ts (more t us)) e
part_bad arr ts t us error.TooLong o h =
    let w : within_limits_each (join ts (more t us)) ≡ false = within_limits-join ts (more t us) ∙ right_false (within_limits_each ts) (within_limits t && within_limits_each us) (left_false (within_limits t) (within_limits_each us) (sym (within_inner arr ts t) ∙ h)) in
    right_false (fits (length (body_bytes arr (join ts (more t us))))) _ (right_false (is_count (counts arr (join ts (more t us)))) _ w)
part_bad arr ts t us error.InvalidValue o h =
    let all = join ts (more t us) in
    elim (one_false (uniform_arrays t) (suits (inner_position_of arr ts) t) h) [
      | inl a ↦ right_false (one_in arr all) _ (left_false (uniform_arrays_each all) (inside_each all) (uniform_arrays-join ts (more t us) ∙ right_false (uniform_arrays_each ts) (uniform_arrays t && uniform_arrays_each us) (left_false (uniform_arrays t) (uniform_arrays_each us) a)))
      | inr s ↦ elim (not_suited arr ts t us o s) [
        | inl a ↦ left_false (one_in arr all) (uniform_arrays_each all && inside_each all) a
        | inr b ↦ right_false (one_in arr all) _ (right_false (uniform_arrays_each all) (inside_each all) b)
      ]
    ]
part_bad arr ts t us e o h = absurd h

pub over_bad : (arr : Bool) (ts : Trees) (t : Tree) (us : Trees) (n : ℕ) → one_in arr ts ≡ true → n ≡ counts arr ts →
    PassesLimit arr n (length (form (inner_position_of arr ts) t) + constructor_len (inner_position_of arr ts) (next (inner_position_of arr ts) t) + length (body_bytes arr ts)) → bad_in arr (join ts (more t us)) error.TooLong
over_bad arr ts t us n o m h = elim h [
  | inl a ↦
      let e = body_bytes-join arr ts t us o in
      left_false (fits (length (body_bytes arr (join ts (more t us))))) _ (le_false (length (body_bytes arr (join ts (more t us)))) 4294967291 (omega arith))
  | inr b ↦
      let few : is_count (counts arr (join ts (more t us))) ≡ false =
      le_false _ _ (rw b.0 (let k : n ≡ count ts = m ∙ ap (λ a. counts a ts) b.0 in let j = count-join ts (more t us) in let l = b.1 in omega arith)) in
      right_false (fits (length (body_bytes arr (join ts (more t us))))) _ (left_false (is_count (counts arr (join ts (more t us)))) (within_limits_each (join ts (more t us))) few)
]

-- A part that fails.
pub refused_part : (start : SizeSerializer) (kind : CompoundKind) (compound : OpenCompound) (ps : List (Option Tree)) (h : HoldsGathered start kind compound ps) (p : Option Tree) (e : SizeError) (after : Context) →
    AtPosition (inner_position_of (is_array compound.resolved_kind) h.ts) p (Err e) after → (others : List (Option Tree)) →
    AtPosition (position_of start.context) (meant start.context (tree_of_parts kind (ps ++ (p ∷ others)))) (Err e) (context.Unmarked (without_prefix compound.position))
refused_part start kind compound ps h None e after r others = with_rest start kind compound ps h None e r.0 (λ t us q. absurd (none-some t q)) others
  where
    none-some : (t : Tree) → None ≡ Some t → ⊥
    none-some t q = cc
refused_part start kind compound ps h (Some t) e after r others =
    with_rest start kind compound ps h (Some t) e (refused-none (inner_position_of (is_array compound.resolved_kind) h.ts) t e r.0)
    (λ v us q. subst (λ x. bad_in (is_array compound.resolved_kind) (join h.ts (more x us)) e) (same t v q) (part_bad (is_array compound.resolved_kind) h.ts t us e h.accepted.one r.0)) others
  where
    same : (t v : Tree) → Some t ≡ Some v → t ≡ v
    same t v q = cc

-- A part that exceeds a limit.
pub over_part : (start : SizeSerializer) (kind : CompoundKind) (compound : OpenCompound) (ps : List (Option Tree)) (h : HoldsGathered start kind compound ps) (t : Tree) →
    PassesLimit (is_array compound.resolved_kind) compound.count (length (form (inner_position_of (is_array compound.resolved_kind) h.ts) t) + constructor_len (inner_position_of (is_array compound.resolved_kind) h.ts) (next (inner_position_of (is_array compound.resolved_kind) h.ts) t) + length (body_bytes (is_array compound.resolved_kind) h.ts)) →
    (others : List (Option Tree)) →
    AtPosition (position_of start.context) (meant start.context (tree_of_parts kind (ps ++ (Some t ∷ others)))) (Err error.TooLong) (context.Unmarked (without_prefix compound.position))
over_part start kind compound ps h t past others =
    let arr = is_array compound.resolved_kind in
    with_rest start kind compound ps h (Some t) error.TooLong tt
    (λ v us q. subst (λ x. bad_in arr (join h.ts (more x us)) error.TooLong) (same t v q) (over_bad arr h.ts t us compound.count h.accepted.one h.accepted.counted past)) others
  where
    same : (t v : Tree) → Some t ≡ Some v → t ≡ v
    same t v q = cc
