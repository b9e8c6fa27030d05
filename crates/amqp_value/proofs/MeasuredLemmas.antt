-- Trees measured from their parts.
use Rattle.std.proofs.Common.{◌≡◌, ℕ, suc, ◌+◌, ◌*◌, ◌<◌, ◌≤◌, List, [], ◌∷◌, ◌++◌, ◌&&◌, Bool, true, false, Some, length, drop, get_or, min, refl, ap, sym, ◌∙◌, subst, arith, add-one, drop-cons, length-append, nat_le, nat_eq, if◌then◌else◌}
use Rattle.std.proofs.lemmas.Bool.Decides.{nat_tests}
use Rattle.amqp_ser.specs.Tree.{Scalar, null, bool, ubyte, ushort, uint, ulong, byte, short, int, long, float, double, decimal32, decimal64, decimal128, char, timestamp, uuid, binary, string, symbol, Descriptor, Tree, Trees, Pairs, scalar, list, array, map, described, variant, lazy, transparent, no_trees, more, no_pairs, pair, count, pair_count}
use Rattle.amqp_ser.specs.Limits.{fits, is_short}
use Rattle.amqp_ser.specs.Ranged.{IsRanged, IsRangedScalar, IsRangedDescriptor, AreRanged}
use Rattle.amqp_ser.specs.Scalars.{scalar_form, scalar_payload, scalar_code}
use Rattle.amqp_ser.specs.Encoding.{encoding, encoding_each, encoding_pairs, payload_each, array_constructor, constructor, code_list, counted, wide, list_form, array_form, descriptor_form}
use Rattle.amqp_ser.specs.Writable.{scalar_fits, same_constructor, each_constructor, descriptor_fits}
use Rattle.amqp_ser.proofs.Bools.{both, le_true, is_le, left_true, right_true}
use Rattle.amqp_size.specs.Width.{map_form_len, list_form_len, array_form_len}
use Rattle.amqp_value.specs.TreeOf.{tree_of, all_of, pairs_trees}
use Rattle.amqp_value.specs.declared.value.Value.{Value}
use Rattle.amqp_value.specs.Measured.{Measured, MeasuredPayload, MeasuredEach, MeasuredPayloads, MeasuredContent, MeasuredPairs, HasRange, HaveRanges, IsLength, width_for}

if_len : (t : Bool) (xs ys : List ℕ) (m n : ℕ) → length xs ≡ m → length ys ≡ n → length (if t then xs else ys) ≡ (if t then m else n)
if_len true xs ys m n a b = a
if_len false xs ys m n a b = b

length-counted : (a b n : ℕ) (body : List ℕ) → length (counted a b n body) ≡ map_form_len (length body)
length-counted a b n body = if_len (is_short (length body)) (a ∷ (length body + 1) ∷ n ∷ body) (b ∷ wide n body) (length body + 3) (length body + 9) (omega arith) (omega arith)

length-list_form : (n : ℕ) (body : List ℕ) → length (list_form n body) ≡ list_form_len (length body)
length-list_form n [] = refl
length-list_form n (b ∷ bs) = let e = length-counted 0xc0 0xd0 n (b ∷ bs) in grind (arith, nat_tests)

length-array_form : (n : ℕ) (body : List ℕ) → length (array_form n body) ≡ array_form_len (length body) n
length-array_form n body = if_len (is_short (length body) && nat_le n 255) (0xe0 ∷ (length body + 1) ∷ n ∷ body) (0xf0 ∷ wide n body) (length body + 3) (length body + 9) (omega arith) (omega arith)

length-wide : (n : ℕ) (body : List ℕ) → length (wide n body) ≡ length body + 8
length-wide n body = omega arith

-- A scalar.
pub of_scalar : (s : Scalar) (n : ℕ) → scalar_fits s ≡ true → n ≡ length (scalar_form s) → IsRangedScalar s → Measured (scalar s) n
of_scalar s n f e r = record { within_limits_it = f; uniform_arrays_it = refl; inside_it = refl; len = e; ranged = r }

pub of_scalar_payload : (s : Scalar) (n : ℕ) → scalar_fits s ≡ true → n ≡ length (scalar_payload s) → IsRangedScalar s → MeasuredPayload (scalar s) n
of_scalar_payload s n f e r = record { within_limits_it = f; uniform_arrays_it = refl; inside_it = refl; len = e; ranged = r }

-- Compounds.
pub of_list : (ts : Trees) (m n : ℕ) → MeasuredEach ts m → fits m ≡ true → n ≡ list_form_len m → Measured (list ts) n
of_list ts m n e f w = record {
  within_limits_it = both _ _ (subst (λ k. fits k ≡ true) e.len f) e.within_limits_all;
  uniform_arrays_it = e.uniform_arrays_all;
  inside_it = e.inside_all;
  len = w ∙ (ap list_form_len e.len ∙ sym (length-list_form (count ts) (encoding_each ts)));
  ranged = e.ranged_all;
}

pub of_map : (ps : Pairs) (m n : ℕ) → MeasuredPairs ps m → fits m ≡ true → n ≡ map_form_len m → Measured (map ps) n
of_map ps m n e f w = record {
  within_limits_it = both _ _ (subst (λ k. fits k ≡ true) e.len f) e.within_limits_all;
  uniform_arrays_it = e.uniform_arrays_all;
  inside_it = e.inside_all;
  len = w ∙ (ap map_form_len e.len ∙ sym (length-counted 0xc1 0xd1 (pair_count ps * 2) (encoding_pairs ps)));
  ranged = e.ranged_all;
}

pub of_array : (ts : Trees) (c m n : ℕ) → count ts ≡ c → MeasuredContent ts m → fits m ≡ true → c ≤ 4294967295 → n ≡ array_form_len m c → Measured (array ts) n
of_array ts c m n k e f few w = record {
  within_limits_it = both _ _ (subst (λ k. fits k ≡ true) e.len f) (both _ _ (le_true (count ts) 4294967295 (omega arith)) e.within_limits_all);
  uniform_arrays_it = both _ _ e.one e.uniform_arrays_all;
  inside_it = e.inside_all;
  len = w ∙ (ap (λ x. array_form_len x c) e.len ∙ (ap (array_form_len (length (array_constructor ts ++ payload_each ts))) (sym k) ∙ sym (length-array_form (count ts) (array_constructor ts ++ payload_each ts))));
  ranged = e.ranged_all;
}

pub of_described : (d : Descriptor) (t : Tree) (m n whole : ℕ) → descriptor_fits d ≡ true → m ≡ length (descriptor_form d) → IsRangedDescriptor d → Measured t n → whole ≡ m + 1 + n → IsLength whole → Measured (described d t) whole
of_described d t m n whole f l r e w ok =
    let a = e.len in
    let s : whole ≡ length (encoding (described d t)) = simp length-append (omega arith) in
    record {
      within_limits_it = both _ _ (le_true (length (encoding (described d t))) 18446744073709551615 (omega arith)) (both _ _ f e.within_limits_it);
      uniform_arrays_it = e.uniform_arrays_it;
      inside_it = e.inside_it;
      len = s;
      ranged = (r, e.ranged);
    }

pub of_list_payload : (ts : Trees) (m n : ℕ) → MeasuredEach ts m → fits m ≡ true → n ≡ m + 8 → MeasuredPayload (list ts) n
of_list_payload ts m n e f w = record {
  within_limits_it = both _ _ (subst (λ k. fits k ≡ true) e.len f) e.within_limits_all;
  uniform_arrays_it = e.uniform_arrays_all;
  inside_it = e.inside_all;
  len = let a = e.len in let b = length-wide (count ts) (encoding_each ts) in omega arith;
  ranged = e.ranged_all;
}

pub of_map_payload : (ps : Pairs) (m n : ℕ) → MeasuredPairs ps m → fits m ≡ true → n ≡ m + 8 → MeasuredPayload (map ps) n
of_map_payload ps m n e f w = record {
  within_limits_it = both _ _ (subst (λ k. fits k ≡ true) e.len f) e.within_limits_all;
  uniform_arrays_it = e.uniform_arrays_all;
  inside_it = e.inside_all;
  len = let a = e.len in let b = length-wide (pair_count ps * 2) (encoding_pairs ps) in omega arith;
  ranged = e.ranged_all;
}

pub of_array_payload : (ts : Trees) (c m n : ℕ) → count ts ≡ c → MeasuredContent ts m → fits m ≡ true → c ≤ 4294967295 → n ≡ m + 8 → MeasuredPayload (array ts) n
of_array_payload ts c m n k e f few w = record {
  within_limits_it = both _ _ (subst (λ k. fits k ≡ true) e.len f) (both _ _ (le_true (count ts) 4294967295 (omega arith)) e.within_limits_all);
  uniform_arrays_it = both _ _ e.one e.uniform_arrays_all;
  inside_it = e.inside_all;
  len = let a = e.len in let b = length-wide (count ts) (array_constructor ts ++ payload_each ts) in omega arith;
  ranged = e.ranged_all;
}

-- Lists of parts.
cons : (t : Tree) (ts : Trees) (m n k : ℕ) → Measured t m → MeasuredEach ts n → k ≡ n + m → MeasuredEach (more t ts) k
cons t ts m n k a b e = record {
  within_limits_all = both _ _ a.within_limits_it b.within_limits_all;
  uniform_arrays_all = both _ _ a.uniform_arrays_it b.uniform_arrays_all;
  inside_all = both _ _ a.inside_it b.inside_all;
  len = let x = a.len in let y = b.len in simp length-append (omega arith);
  ranged_all = (a.ranged, b.ranged_all);
}

cons_payload : (t : Tree) (ts : Trees) (m n k : ℕ) → MeasuredPayload t m → MeasuredPayloads ts n → k ≡ n + m → MeasuredPayloads (more t ts) k
cons_payload t ts m n k a b e = record {
  within_limits_all = both _ _ a.within_limits_it b.within_limits_all;
  uniform_arrays_all = both _ _ a.uniform_arrays_it b.uniform_arrays_all;
  inside_all = both _ _ a.inside_it b.inside_all;
  len = let x = a.len in let y = b.len in simp length-append (omega arith);
  ranged_all = (a.ranged, b.ranged_all);
}

cons_pair : (k v : Tree) (ps : Pairs) (m n o s : ℕ) → Measured k m → Measured v n → MeasuredPairs ps o → s ≡ o + n + m → MeasuredPairs (pair k v ps) s
cons_pair k v ps m n o s a b c e = record {
  within_limits_all = both _ _ a.within_limits_it (both _ _ b.within_limits_it c.within_limits_all);
  uniform_arrays_all = both _ _ a.uniform_arrays_it (both _ _ b.uniform_arrays_it c.uniform_arrays_all);
  inside_all = both _ _ a.inside_it (both _ _ b.inside_it c.inside_all);
  len = let x = a.len in let y = b.len in let z = c.len in simp length-append (omega arith);
  ranged_all = (a.ranged, b.ranged, c.ranged_all);
}

pub none_each : MeasuredEach no_trees 0
none_each = record { within_limits_all = refl; uniform_arrays_all = refl; inside_all = refl; len = refl; ranged_all = tt }

pub none_payloads : MeasuredPayloads no_trees 0
none_payloads = record { within_limits_all = refl; uniform_arrays_all = refl; inside_all = refl; len = refl; ranged_all = tt }

pub none_pairs : MeasuredPairs no_pairs 0
none_pairs = record { within_limits_all = refl; uniform_arrays_all = refl; inside_all = refl; len = refl; ranged_all = tt }

abbrev cap : ℕ
cap = 18446744073709551615

pub each_step : (xs : List Value) (i : ℕ) (v : Value) (len m after : ℕ) → i < length xs → v ≡ get_or xs i v
    → (IsLength len → MeasuredEach (all_of (drop (i + 1) xs)) len) → (IsLength m → Measured (tree_of v) m)
    → after ≡ min (len + m) cap → IsLength after → MeasuredEach (all_of (drop i xs)) after
each_step xs i v len m after lt is rest one sum ok =
    let r : MeasuredEach (all_of (drop (suc i) xs)) len = rw add-one at (rest (omega arith)) in
    let o = subst (λ w. Measured (tree_of w) m) is (one (omega arith)) in
    rw (drop-cons xs i v lt) (cons (tree_of (get_or xs i v)) (all_of (drop (suc i) xs)) m len after o r (omega arith))

pub payload_step : (xs : List Value) (i : ℕ) (v : Value) (len m after : ℕ) → i < length xs → v ≡ get_or xs i v
    → (IsLength len → MeasuredPayloads (all_of (drop (i + 1) xs)) len) → (IsLength m → MeasuredPayload (tree_of v) m)
    → after ≡ min (len + m) cap → IsLength after → MeasuredPayloads (all_of (drop i xs)) after
payload_step xs i v len m after lt is rest one sum ok =
    let r : MeasuredPayloads (all_of (drop (suc i) xs)) len = rw add-one at (rest (omega arith)) in
    let o = subst (λ w. MeasuredPayload (tree_of w) m) is (one (omega arith)) in
    rw (drop-cons xs i v lt) (cons_payload (tree_of (get_or xs i v)) (all_of (drop (suc i) xs)) m len after o r (omega arith))

pub pair_step : (es : List (Value × Value)) (i : ℕ) (e : Value × Value) (len m n mid after : ℕ) → i < length es → e ≡ get_or es i e
    → (IsLength len → MeasuredPairs (pairs_trees (drop (i + 1) es)) len) → (IsLength n → Measured (tree_of e.1) n) → (IsLength m → Measured (tree_of e.0) m)
    → mid ≡ min (len + n) cap → after ≡ min (mid + m) cap → IsLength after → MeasuredPairs (pairs_trees (drop i es)) after
pair_step es i e len m n mid after lt is rest value key sum sums ok =
    let r : MeasuredPairs (pairs_trees (drop (suc i) es)) len = rw add-one at (rest (omega arith)) in
    let k = subst (λ w. Measured (tree_of w.0) m) is (key (omega arith)) in
    let v = subst (λ w. Measured (tree_of w.1) n) is (value (omega arith)) in
    rw (drop-cons es i e lt) (cons_pair (tree_of (get_or es i e).0) (tree_of (get_or es i e).1) (pairs_trees (drop (suc i) es)) m n len after k v r (omega arith))

pub count-all_of : (vs : List Value) → count (all_of vs) ≡ length vs
count-all_of [] = refl
count-all_of (v ∷ vs) = let e = count-all_of vs in omega arith

-- Fits, so it can be measured.
fits_is : (m : ℕ) → fits m ≡ true → IsLength m
fits_is m h = let e = is_le m 4294967291 h in omega arith

pub of_map_at : (es fs : List (Value × Value)) (m n : ℕ) → fs ≡ es → (IsLength m → MeasuredPairs (pairs_trees fs) m) → (IsLength n → fits m ≡ true) → (IsLength n → n ≡ map_form_len m) → IsLength n → Measured (map (pairs_trees es)) n
of_map_at es fs m n e h f w ok = of_map (pairs_trees es) m n (subst (λ k. MeasuredPairs (pairs_trees k) m) e (h (fits_is m (f ok)))) (f ok) (w ok)

pub of_map_payload_at : (es fs : List (Value × Value)) (m n : ℕ) → fs ≡ es → (IsLength m → MeasuredPairs (pairs_trees fs) m) → (IsLength n → fits m ≡ true) → (IsLength n → n ≡ m + 8) → IsLength n → MeasuredPayload (map (pairs_trees es)) n
of_map_payload_at es fs m n e h f w ok = of_map_payload (pairs_trees es) m n (subst (λ k. MeasuredPairs (pairs_trees k) m) e (h (fits_is m (f ok)))) (f ok) (w ok)

pub of_array_at : (xs ys : List Value) (c m n : ℕ) → ys ≡ xs → c ≡ length ys → (IsLength m → MeasuredContent (all_of ys) m) → (IsLength n → fits m ≡ true) → (IsLength n → c ≤ 4294967295) → (IsLength n → n ≡ array_form_len m c) → IsLength n → Measured (array (all_of xs)) n
of_array_at xs ys c m n e l h f few w ok =
    of_array (all_of xs) c m n (count-all_of xs ∙ (ap length (sym e) ∙ sym l)) (subst (λ k. MeasuredContent (all_of k) m) e (h (fits_is m (f ok)))) (f ok) (few ok) (w ok)

pub of_array_payload_at : (xs ys : List Value) (c m n : ℕ) → ys ≡ xs → c ≡ length ys → (IsLength m → MeasuredContent (all_of ys) m) → (IsLength n → fits m ≡ true) → c ≤ 4294967295 → (IsLength n → n ≡ m + 8) → IsLength n → MeasuredPayload (array (all_of xs)) n
of_array_payload_at xs ys c m n e l h f few w ok =
    of_array_payload (all_of xs) c m n (count-all_of xs ∙ (ap length (sym e) ∙ sym l)) (subst (λ k. MeasuredContent (all_of k) m) e (h (fits_is m (f ok)))) (f ok) few (w ok)

-- Numbers of one constructor.
number_width : (s : Scalar) (c : ℕ) → scalar_code s ≡ c → 0 < width_for c → (length (scalar_payload s) ≡ width_for c) × (scalar_fits s ≡ true)
number_width null c e h = let h' = subst (λ k. 0 < width_for k) (sym e) h in absurd (omega arith)
number_width (bool true) c e h = (ap width_for e, refl)
number_width (bool false) c e h = (ap width_for e, refl)
number_width (ubyte n) c e h = (ap width_for e, refl)
number_width (ushort n) c e h = (ap width_for e, refl)
number_width (uint n) c e h = (ap width_for e, refl)
number_width (ulong n) c e h = (ap width_for e, refl)
number_width (byte z) c e h = (ap width_for e, refl)
number_width (short z) c e h = (ap width_for e, refl)
number_width (int z) c e h = (ap width_for e, refl)
number_width (long z) c e h = (ap width_for e, refl)
number_width (float n) c e h = (ap width_for e, refl)
number_width (double n) c e h = (ap width_for e, refl)
number_width (decimal32 bs) c e h = let h' = subst (λ k. 0 < width_for k) (sym e) h in absurd (omega arith)
number_width (decimal64 bs) c e h = let h' = subst (λ k. 0 < width_for k) (sym e) h in absurd (omega arith)
number_width (decimal128 bs) c e h = let h' = subst (λ k. 0 < width_for k) (sym e) h in absurd (omega arith)
number_width (char n) c e h = (ap width_for e, refl)
number_width (timestamp z) c e h = (ap width_for e, refl)
number_width (uuid bs) c e h = let h' = subst (λ k. 0 < width_for k) (sym e) h in absurd (omega arith)
number_width (binary bs) c e h = let h' = subst (λ k. 0 < width_for k) (sym e) h in absurd (omega arith)
number_width (string bs) c e h = let h' = subst (λ k. 0 < width_for k) (sym e) h in absurd (omega arith)
number_width (symbol bs) c e h = let h' = subst (λ k. 0 < width_for k) (sym e) h in absurd (omega arith)

pub no_width : (d c : ℕ) → nat_eq c d ≡ true → width_for d ≡ 0 → 0 < width_for c → ⊥
no_width d c e z h = let k : c ≡ d = grind (arith, nat_tests) in let h' = subst (λ x. 0 < width_for x) k h in omega arith

number : (t : Tree) (c : ℕ) → same_constructor (Some c) (constructor t) ≡ true → 0 < width_for c → HasRange t → MeasuredPayload t (width_for c)
number (scalar s) c e h r =
    let k : scalar_code s ≡ c = grind (arith, nat_tests) in
    let w = number_width s c k h in of_scalar_payload s (width_for c) w.1 (sym w.0) r
number (list ts) c e h r = absurd (no_width 0xd0 c e refl h)
number (array ts) c e h r = absurd (no_width 0xf0 c e refl h)
number (map ps) c e h r = absurd (no_width 0xd1 c e refl h)
number (described d t) c e h r = cc
number (variant i t) c e h r = absurd (no_width 0xd1 c e refl h)
number (lazy bs) c e h r = cc
number (transparent ts) c e h r = cc

numbers : (ts : Trees) (c : ℕ) → each_constructor (Some c) ts ≡ true → 0 < width_for c → HaveRanges ts → MeasuredPayloads ts (count ts * width_for c)
numbers no_trees c e h r = let z : 0 ≡ count no_trees * width_for c = omega arith in subst (λ n. MeasuredPayloads no_trees n) z none_payloads
numbers (more t ts) c e h r =
    cons_payload t ts (width_for c) (count ts * width_for c) (count (more t ts) * width_for c) (number t c (left_true _ _ e) h r.0) (numbers ts c (right_true _ _ e) h r.1) (omega arith)

-- The content of an array, from its payloads: its constructor is that of the first element.
pub of_content : (xs : List Value) (v : Value) (c m n : ℕ) → 0 < length xs → v ≡ get_or xs 0 v → constructor (tree_of v) ≡ Some c → each_constructor (Some c) (all_of xs) ≡ true → MeasuredPayloads (all_of xs) m → n ≡ m + 1 → MeasuredContent (all_of xs) n
of_content [] v c m n lt is k each p e = absurd (omega arith)
of_content (x ∷ xs) v c m n lt is k each p e =
    let o : constructor (tree_of x) ≡ Some c = subst (λ y. constructor (tree_of y) ≡ Some c) is k in
    record {
      within_limits_all = p.within_limits_all;
      uniform_arrays_all = p.uniform_arrays_all;
      inside_all = p.inside_all;
      ranged_all = p.ranged_all;
      one = subst (λ y. each_constructor y (all_of (x ∷ xs)) ≡ true) (sym o) each;
      len = subst (λ y. n ≡ length (code_list y ++ payload_each (all_of (x ∷ xs)))) (sym o) (let l = p.len in omega arith);
    }

pub of_numbers : (xs : List Value) (v : Value) (c m n : ℕ) → 0 < length xs → v ≡ get_or xs 0 v → constructor (tree_of v) ≡ Some c → each_constructor (Some c) (all_of xs) ≡ true → 0 < width_for c → HaveRanges (all_of xs) → m ≡ min (length xs * width_for c) cap → n ≡ min (m + 1) cap → IsLength n → MeasuredContent (all_of xs) n
of_numbers xs v c m n lt is k each h r e f ok =
    let l = count-all_of xs in
    let p : MeasuredPayloads (all_of xs) (length xs * width_for c) = subst (λ y. MeasuredPayloads (all_of xs) (y * width_for c)) l (numbers (all_of xs) c each h r) in
    of_content xs v c (length xs * width_for c) n lt is k each p (omega arith)
