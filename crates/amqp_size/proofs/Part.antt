-- One more part.
use Rattle.std.proofs.Common.{◌≡◌, ℕ, ◌+◌, ◌≤◌, List, [], ◌∷◌, ◌++◌, Option, Some, None, Bool, true, false, not, ◌&&◌, Result, Ok, Err, MatchResult, IfOk, IfErr, length, refl, ap, sym, ◌∙◌, subst, arith, nat_le, if◌then◌else◌, is_some}
use Rattle.amqp_size.specs.declared.size_error.SizeError.{SizeError}
use Rattle.amqp_size.specs.declared.size_error.SizeError.TheVariants as error
use Rattle.amqp_ser.specs.Tree.{Tree, Trees, no_trees, more}
use Rattle.amqp_ser.specs.Ranged.{AreRanged}
use Rattle.amqp_ser.specs.Encoding.{constructor}
use Rattle.amqp_ser.specs.Writable.{same_constructor, each_constructor, uniform_arrays, uniform_arrays_each, within_limits, within_limits_each, inside, inside_each}
use Rattle.amqp_ser.specs.Compounds.{all_trees, prepend, tree_of_parts, paired}
use Rattle.amqp_ser.specs.declared.kind.CompoundKind.{CompoundKind}
use Rattle.amqp_ser.specs.declared.kind.CompoundKind.TheVariants as kinds
use Rattle.amqp_ser.proofs.Bools.{nat_eq-refl, both, left_true, right_true, le_true, is_le}
use Rattle.amqp_ser.proofs.Joins.{join, joined, all_trees-append, uniform_arrays-join, within_limits-join, inside-join, each-join, count-join, ranged-join, ranged-left}
use Rattle.amqp_ser.proofs.Last.{last_off, paired-last}
use Rattle.amqp_ser.proofs.Pairing.{even}
use Rattle.amqp_size.specs.Position.{position_of, meant, without_prefix, limit_of, resolved_kind_of, is_array, is_gathered, element, next, suits, form}
use Rattle.amqp_size.specs.SizeSerializer.{AtPosition, Counted, HoldsGathered, body_bytes, counts, one_in, inner_position_of}
use Rattle.amqp_size.specs.AddPart.{constructor_len, constructor_len_in, PassesLimit}
use Rattle.amqp_size.specs.WholePosition.{Position}
use Rattle.amqp_size.specs.WholeContext.{Context}
use Rattle.amqp_size.specs.WholeContext as context
use Rattle.amqp_size.specs.declared.serializer.SizeSerializer.{SizeSerializer}
use Rattle.amqp_size.specs.declared.open_compound.OpenCompound.{OpenCompound}
use Rattle.amqp_size.proofs.Joined.{body_bytes-join, rest_of, some_con}
use Rattle.amqp_size.proofs.Positions.{within_inner, extent_inner, gathered_limit}
use Rattle.amqp_size.proofs.Refusing.{over_part}

more_counted : (arr : Bool) (ts : Trees) (t : Tree) (n : ℕ) → n ≡ counts arr ts → (if arr then n + 1 else n) ≡ counts arr (join ts (more t no_trees))
more_counted false ts t n h = h
more_counted true ts t n h = let j = count-join ts (more t no_trees) in omega arith

nothing_after : (arr : Bool) → length (rest_of arr no_trees) ≡ 0
nothing_after true = refl
nothing_after false = refl

is_some-same : (o : Option ℕ) → is_some o ≡ true → same_constructor o o ≡ true
is_some-same None h = cc
is_some-same (Some c) h = nat_eq-refl c

pub next_inner : (arr : Bool) (ts : Trees) (t : Tree) → one_in arr ts ≡ true → next (inner_position_of arr ts) t ≡ inner_position_of arr (join ts (more t no_trees))
next_inner false ts t h = refl
next_inner true no_trees t h = refl
next_inner true (more v ts) t h =
    let c = some_con (constructor v) (left_true (same_constructor (constructor v) (constructor v)) (each_constructor (constructor v) ts) h) in
    ap (λ o. next (element o) t) c.1 ∙ sym (ap element c.1)

-- A tree that its position accepts has nothing transparent inside.
pub suited_inside : (arr : Bool) (ts : Trees) (t : Tree) → one_in arr ts ≡ true → suits (inner_position_of arr ts) t ≡ true → inside t ≡ true
suited_inside false ts t h s = s
suited_inside true no_trees t h s = right_true (is_some (constructor t)) (inside t) s
suited_inside true (more v ts) t h s =
    let c = some_con (constructor v) (left_true (same_constructor (constructor v) (constructor v)) (each_constructor (constructor v) ts) h) in
    right_true (same_constructor (Some c.0) (constructor t)) (inside t) (sym (ap (λ o. suits (element o) t) c.1) ∙ s)

pub more_one : (arr : Bool) (ts : Trees) (t : Tree) → one_in arr ts ≡ true → suits (inner_position_of arr ts) t ≡ true → one_in arr (join ts (more t no_trees)) ≡ true
more_one false ts t h s = refl
more_one true no_trees t h s = both (same_constructor (constructor t) (constructor t)) true (is_some-same (constructor t) (left_true (is_some (constructor t)) (inside t) s)) refl
more_one true (more v ts) t h s =
    let mine = left_true (same_constructor (constructor v) (constructor v)) (each_constructor (constructor v) ts) h in
    let others = right_true (same_constructor (constructor v) (constructor v)) (each_constructor (constructor v) ts) h in
    let c = some_con (constructor v) mine in
    let new : same_constructor (constructor v) (constructor t) ≡ true = ap (λ o. same_constructor o (constructor t)) c.1 ∙ left_true (same_constructor (Some c.0) (constructor t)) (inside t) (sym (ap (λ o. suits (element o) t) c.1) ∙ s) in
    both (same_constructor (constructor v) (constructor v)) (each_constructor (constructor v) (join ts (more t no_trees))) mine
    (each-join (constructor v) ts (more t no_trees) ∙ both (each_constructor (constructor v) ts) (same_constructor (constructor v) (constructor t) && true) others (both (same_constructor (constructor v) (constructor t)) true new refl))

opens_same : (arr : Bool) (ts : Trees) (q : Position) → constructor_len_in arr (context.Unmarked (inner_position_of arr ts)) (context.Unmarked q) ≡ constructor_len (inner_position_of arr ts) q
opens_same false ts q = refl
opens_same true ts q = refl

new_inner : (arr : Bool) (ts : Trees) (t : Tree) (old after : Context) → one_in arr ts ≡ true → old ≡ context.Unmarked (inner_position_of arr ts) → after ≡ context.Unmarked (next (inner_position_of arr ts) t) →
    (if arr then after else old) ≡ context.Unmarked (inner_position_of arr (join ts (more t no_trees)))
new_inner false ts t old after h e q = e
new_inner true ts t old after h e q = q ∙ ap context.Unmarked (next_inner true ts t h)

-- What is added to the total size.
added : (start : SizeSerializer) (kind : CompoundKind) (compound : OpenCompound) (ps : List (Option Tree)) (h : HoldsGathered start kind compound ps) (t : Tree) (size : ℕ) (after : Context) → Counted (inner_position_of (is_array compound.resolved_kind) h.ts) t size after →
    size + constructor_len_in (is_array compound.resolved_kind) compound.inner_context after + compound.sum ≡
    length (form (inner_position_of (is_array compound.resolved_kind) h.ts) t) + constructor_len (inner_position_of (is_array compound.resolved_kind) h.ts) (next (inner_position_of (is_array compound.resolved_kind) h.ts) t) + length (body_bytes (is_array compound.resolved_kind) h.ts)
added start kind compound ps h t size after k =
    let arr = is_array compound.resolved_kind in
    let i = inner_position_of arr h.ts in
    let len : size ≡ length (form i t) = k.len ∙ extent_inner arr h.ts t in
    let opened : constructor_len_in arr compound.inner_context after ≡ constructor_len i (next i t) =
    ap (λ u. constructor_len_in arr u after) h.accepted.inner_context ∙ ap (λ u. constructor_len_in arr (context.Unmarked i) u) k.position ∙ opens_same arr h.ts (next i t) in
    let sum = h.accepted.sum in
    omega arith

-- A part that is accepted.
pub taken_part : (start : SizeSerializer) (kind : CompoundKind) (compound new : OpenCompound) (ps : List (Option Tree)) (h : HoldsGathered start kind compound ps) (t : Tree) (size : ℕ) (after : Context) →
    Counted (inner_position_of (is_array compound.resolved_kind) h.ts) t size after →
    new.position ≡ compound.position → new.resolved_kind ≡ compound.resolved_kind →
    new.sum ≡ size + constructor_len_in (is_array compound.resolved_kind) compound.inner_context after + compound.sum → new.count ≡ (if is_array compound.resolved_kind then compound.count + 1 else compound.count) → new.count ≤ 4294967295 →
    new.inner_context ≡ (if is_array compound.resolved_kind then after else compound.inner_context) → new.before_last ≡ compound.sum → new.sum ≤ limit_of new.resolved_kind →
    HoldsGathered start kind new (ps ++ (Some t ∷ []))
taken_part start kind compound new ps h t size after k a b d e few f was small =
    let arr = is_array compound.resolved_kind in
    let ts = h.ts in
    let us = join ts (more t no_trees) in
    let c : is_array new.resolved_kind ≡ arr = ap is_array b in
    let total = added start kind compound ps h t size after k in
    let all = body_bytes-join arr ts t no_trees h.accepted.one in
    let nought = nothing_after arr in
    let sum : new.sum ≡ length (body_bytes arr us) = omega arith in
    record {
      ts = us;
      trees = all_trees-append ps (Some t ∷ []) ∙ ap (λ o. joined o (Some (more t no_trees))) h.trees;
      position = a ∙ h.position;
      resolved_kind = b ∙ h.resolved_kind;
      gathered = ap is_gathered b ∙ h.gathered;
      back = λ odd qs q e. record {
        us = ts;
        trees = ap all_trees (sym (last_off ps qs (Some t) q e)) ∙ h.trees;
        sum = was ∙ h.accepted.sum ∙ sym (ap (λ x. length (body_bytes x ts)) c);
      };
      accepted = record {
        sum = sum ∙ sym (ap (λ x. length (body_bytes x us)) c);
        fits_sum = le_true new.sum 4294967291 (subst (λ m. new.sum ≤ m) (gathered_limit new.resolved_kind (ap is_gathered b ∙ h.gathered)) small);
        counted = e ∙ more_counted arr ts t compound.count h.accepted.counted ∙ sym (ap (λ x. counts x us) c);
        few = le_true new.count 4294967295 few;
        inner_context = f ∙ new_inner arr ts t compound.inner_context after h.accepted.one h.accepted.inner_context k.position ∙ sym (ap (λ x. context.Unmarked (inner_position_of x us)) c);
        uniform_arrays_parts = uniform_arrays-join ts (more t no_trees) ∙ both (uniform_arrays_each ts) (uniform_arrays t && true) h.accepted.uniform_arrays_parts (both (uniform_arrays t) true k.uniform_arrays_it refl);
        within_limits_parts = within_limits-join ts (more t no_trees) ∙ both (within_limits_each ts) (within_limits t && true) h.accepted.within_limits_parts (both (within_limits t) true (sym (within_inner arr ts t) ∙ k.within_limits_it) refl);
        inside_parts = inside-join ts (more t no_trees) ∙ both (inside_each ts) (inside t && true) h.accepted.inside_parts (both (inside t) true (suited_inside arr ts t h.accepted.one k.suited) refl);
        one = ap (λ x. one_in x us) c ∙ more_one arr ts t h.accepted.one k.suited;
        ranged_parts = ranged-join ts (more t no_trees) h.accepted.ranged_parts (k.ranged, tt);
      };
    }

-- What holds after a part is measured or exceeds a limit.
pub end_taken : (start : SizeSerializer) (kind : CompoundKind) (compound new : OpenCompound) (ps : List (Option Tree)) (h : HoldsGathered start kind compound ps) (p : Option Tree) (size : ℕ) (after : Context) →
    AtPosition (inner_position_of (is_array compound.resolved_kind) h.ts) p (Ok size) after → new.position ≡ compound.position → new.resolved_kind ≡ compound.resolved_kind → (compound.count ≤ 4294967295 → new.count ≤ 4294967295) → new.sum ≤ limit_of new.resolved_kind →
    (res : Result (Unit {0}) SizeError) → IfOk res (λ _. new.before_last ≡ compound.sum) → IfErr res (λ _. new ≡ compound) →
    MatchResult res (λ _. (new.sum ≡ size + constructor_len_in (is_array compound.resolved_kind) compound.inner_context after + compound.sum) × ((new.count ≡ if is_array compound.resolved_kind then compound.count + 1 else compound.count) × (new.inner_context ≡ if is_array compound.resolved_kind then after else compound.inner_context)))
    (λ e. (e ≡ error.TooLong) × PassesLimit (is_array compound.resolved_kind) compound.count (size + constructor_len_in (is_array compound.resolved_kind) compound.inner_context after + compound.sum)) →
    MatchResult res (λ _. HoldsGathered start kind new (ps ++ (p ∷ [])))
    (λ e. (others : List (Option Tree)) → AtPosition (position_of start.context) (meant start.context (tree_of_parts kind (ps ++ (p ∷ others)))) (Err e) (context.Unmarked (without_prefix compound.position)))
end_taken start kind compound new ps h None size after r a b few small res was same m = absurd r
end_taken start kind compound new ps h (Some t) size after r a b few small (Ok u) was same m =
    taken_part start kind compound new ps h t size after r a b m.0 m.1.0 (few (is_le compound.count 4294967295 h.accepted.few)) m.1.1 was small
end_taken start kind compound new ps h (Some t) size after r a b few small (Err e) was same m = λ others.
    subst (λ (x : SizeError). AtPosition (position_of start.context) (meant start.context (tree_of_parts kind (ps ++ (Some t ∷ others)))) (Err x) (context.Unmarked (without_prefix compound.position))) (sym m.0)
    (over_part start kind compound ps h t (subst (λ n. PassesLimit (is_array compound.resolved_kind) compound.count n) (added start kind compound ps h t size after r) m.1) others)

no_array : (u : Context) → is_array (resolved_kind_of u kinds.Map) ≡ false
no_array (context.Unmarked p) = refl
no_array (context.Array p) = refl
no_array (context.Transparent p) = refl
no_array (context.Scalar m p) = refl
no_array (context.Nothing p) = refl

one_less : (us ts : Trees) (p : Option Tree) → joined (Some us) (prepend p (Some no_trees)) ≡ Some ts → uniform_arrays_each ts ≡ true → within_limits_each ts ≡ true → inside_each ts ≡ true → AreRanged ts →
    (uniform_arrays_each us ≡ true) × ((within_limits_each us ≡ true) × ((inside_each us ≡ true) × AreRanged us))
one_less us ts None e a w i r = cc
one_less us ts (Some t) e a w i r =
    let same : ts ≡ join us (more t no_trees) = cc in (
      left_true (uniform_arrays_each us) _ (sym (uniform_arrays-join us (more t no_trees)) ∙ sym (ap uniform_arrays_each same) ∙ a),
      (
        left_true (within_limits_each us) _ (sym (within_limits-join us (more t no_trees)) ∙ sym (ap within_limits_each same) ∙ w),
        (left_true (inside_each us) _ (sym (inside-join us (more t no_trees)) ∙ sym (ap inside_each same) ∙ i), ranged-left us (more t no_trees) (subst AreRanged same r)),
      ),
    )

-- The last part is removed.
pub undone : (start : SizeSerializer) (compound new : OpenCompound) (ps : List (Option Tree)) (p : Option Tree) → HoldsGathered start kinds.Map compound (ps ++ (p ∷ [])) → paired ps ≡ true →
    new.position ≡ compound.position → new.resolved_kind ≡ compound.resolved_kind → new.sum ≡ compound.before_last → new.count ≡ compound.count → new.inner_context ≡ compound.inner_context → new.sum ≤ limit_of new.resolved_kind → HoldsGathered start kinds.Map new ps
undone start compound new ps p h even a b d e f small =
    let odd : paired (ps ++ (p ∷ [])) ≡ false = paired-last ps p ∙ ap not even in
    let was = h.back odd ps p refl in
    let plain : is_array compound.resolved_kind ≡ false = ap is_array h.resolved_kind ∙ no_array start.context in
    let c : is_array new.resolved_kind ≡ is_array compound.resolved_kind = ap is_array b in
    let now : is_array new.resolved_kind ≡ false = c ∙ plain in
    let trees : joined (Some was.us) (prepend p (Some no_trees)) ≡ Some h.ts = sym (ap (λ o. joined o (prepend p (Some no_trees))) was.trees) ∙ sym (all_trees-append ps (p ∷ [])) ∙ h.trees in
    let less = one_less was.us h.ts p trees h.accepted.uniform_arrays_parts h.accepted.within_limits_parts h.accepted.inside_parts h.accepted.ranged_parts in
    record {
      ts = was.us;
      trees = was.trees;
      position = a ∙ h.position;
      resolved_kind = b ∙ h.resolved_kind;
      gathered = ap is_gathered b ∙ h.gathered;
      back = λ odd_now. absurd (both_ways (sym even ∙ odd_now));
      accepted = record {
        sum = d ∙ was.sum ∙ ap (λ x. length (body_bytes x was.us)) (sym c);
        fits_sum = le_true new.sum 4294967291 (subst (λ m. new.sum ≤ m) (gathered_limit new.resolved_kind (ap is_gathered b ∙ h.gathered)) small);
        counted = e ∙ h.accepted.counted ∙ ap (λ x. counts x h.ts) plain ∙ ap (λ x. counts x was.us) (sym now);
        few = ap (λ n. nat_le n 4294967295) e ∙ h.accepted.few;
        inner_context = f ∙ h.accepted.inner_context ∙ ap (λ x. context.Unmarked (inner_position_of x h.ts)) plain ∙ ap (λ x. context.Unmarked (inner_position_of x was.us)) (sym now);
        uniform_arrays_parts = less.0;
        within_limits_parts = less.1.0;
        inside_parts = less.1.1.0;
        one = ap (λ x. one_in x was.us) now;
        ranged_parts = less.1.1.1;
      };
    }
  where
    both_ways : true ≡ false → ⊥
    both_ways q = cc
