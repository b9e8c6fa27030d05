-- Trees written from their parts.
use Rattle.std.proofs.Common.{◌≡◌, ℕ, zero, suc, ◌+◌, ◌-◌, ◌*◌, ◌<◌, ◌≤◌, List, [], ◌∷◌, ◌++◌, ◌&&◌, Bool, true, false, Option, Some, Vec, Global, length, drop, get_or, refl, ap, sym, ◌∙◌, subst, arith, add-one, drop-cons, length-append, append_assoc, append-nil, nat_le, nat_eq, min, if◌then◌else◌}
use Rattle.std.proofs.lemmas.Bool.Decides.{nat_tests}
use Rattle.std.specs.Int.{w32, to_be_bytes}
use Rattle.amqp_ser.specs.Tree.{Scalar, Descriptor, Tree, Trees, Pairs, scalar, list, array, map, described, no_trees, more, no_pairs, pair, count, pair_count}
use Rattle.amqp_ser.specs.Limits.{fits, is_short}
use Rattle.amqp_ser.specs.Scalars.{scalar_form, scalar_payload}
use Rattle.amqp_ser.specs.Encoding.{encoding, encoding_each, encoding_pairs, payload, payload_each, array_constructor, constructor, code_list, counted, wide, list_form, array_form, descriptor_form}
use Rattle.amqp_ser.specs.Writable.{scalar_fits, same_constructor, each_constructor, descriptor_fits}
use Rattle.amqp_ser.proofs.Bools.{both, le_true, nat_eq-refl}
use Rattle.amqp_value.specs.TreeOf.{tree_of, all_of, pairs_trees}
use Rattle.amqp_value.specs.declared.value.Value.{Value}
use Rattle.amqp_value.specs.Wrote.{Grows, Wrote, WrotePayload, WroteEach, WrotePairs, WrotePayloads, WroteContent, wide_header, counted_header, list_header, array_header}

-- Headers before their bodies.
if_append : (t : Bool) (xs ys zs ws body : List ℕ) → zs ≡ xs ++ body → ws ≡ ys ++ body → (if t then zs else ws) ≡ (if t then xs else ys) ++ body
if_append true xs ys zs ws body a b = a
if_append false xs ys zs ws body a b = b

wide_is : (n : ℕ) (body : List ℕ) → wide n body ≡ wide_header (length body) n ++ body
wide_is n body = sym (append_assoc (to_be_bytes w32 (length body + 4)) (to_be_bytes w32 n) body)

counted_is : (c8 c32 n : ℕ) (body : List ℕ) → counted c8 c32 n body ≡ counted_header c8 c32 (length body) n ++ body
counted_is c8 c32 n body =
    if_append (is_short (length body)) (c8 ∷ (length body + 1) ∷ n ∷ []) (c32 ∷ wide_header (length body) n) (c8 ∷ (length body + 1) ∷ n ∷ body) (c32 ∷ wide n body) body refl (ap (λ k. c32 ∷ k) (wide_is n body))

if_false : (t : Bool) (xs ys : List ℕ) → t ≡ false → (if t then xs else ys) ≡ ys
if_false true xs ys e = cc
if_false false xs ys e = refl

list_is : (n : ℕ) (body : List ℕ) → list_form n body ≡ list_header (length body) n ++ body
list_is n [] = refl
list_is n (b ∷ bs) = counted_is 0xc0 0xd0 n (b ∷ bs) ∙ ap (λ k. k ++ (b ∷ bs)) (sym (if_false (nat_eq (length (b ∷ bs)) 0) _ _ (grind (arith, nat_tests))))

array_is : (n : ℕ) (body : List ℕ) → array_form n body ≡ array_header (length body) n ++ body
array_is n body =
    if_append (is_short (length body) && nat_le n 255) (0xe0 ∷ (length body + 1) ∷ n ∷ []) (0xf0 ∷ wide_header (length body) n) (0xe0 ∷ (length body + 1) ∷ n ∷ body) (0xf0 ∷ wide n body) body refl (ap (λ k. 0xf0 ∷ k) (wide_is n body))

-- A header, then a body of the length that the header says.
module _ (form : ℕ → List ℕ → List ℕ) (header : ℕ → ℕ → List ℕ) (is : (n : ℕ) (body : List ℕ) → form n body ≡ header (length body) n ++ body) where
  joined : (a h b body : List ℕ) (len n : ℕ) → h ≡ a ++ header len n → b ≡ h ++ body → length body ≡ len → b ≡ a ++ form n body
  joined a h b body len n e f l =
      f ∙ (ap (λ k. k ++ body) e ∙ (append_assoc a (header len n) body ∙ ap (λ k. a ++ k) (ap (λ k. header k n ++ body) (sym l) ∙ sym (is n body))))

body_len : (h b body : List ℕ) (len : ℕ) → b ≡ h ++ body → length b - length h ≡ len → length body ≡ len
body_len h b body len e l = let s = ap length e in let t = length-append h body in omega arith

pub of_scalar : (s : Scalar) (a b : List ℕ) → scalar_fits s ≡ true → b ≡ a ++ scalar_form s → Wrote (scalar s) a b
of_scalar s a b f e = record { within_limits_it = f; uniform_arrays_it = refl; inside_it = refl; out = e }

pub of_scalar_payload : (s : Scalar) (a b : List ℕ) → scalar_fits s ≡ true → b ≡ a ++ scalar_payload s → WrotePayload (scalar s) a b
of_scalar_payload s a b f e = record { within_limits_it = f; uniform_arrays_it = refl; inside_it = refl; out = e }

fits_body : (body : List ℕ) (len : ℕ) → length body ≡ len → len ≤ 4294967291 → fits (length body) ≡ true
fits_body body len l f = le_true (length body) 4294967291 (omega arith)

pub of_list : (ts : Trees) (len m : ℕ) (a h b : List ℕ) → count ts ≡ m → len ≤ 4294967291 → h ≡ a ++ list_header len m → WroteEach ts h b → length b - length h ≡ len → Wrote (list ts) a b
of_list ts len m a h b k f e w l =
    let n = body_len h b (encoding_each ts) len w.out l in
    record {
      within_limits_it = both _ _ (fits_body (encoding_each ts) len n f) w.within_limits_all;
      uniform_arrays_it = w.uniform_arrays_all;
      inside_it = w.inside_all;
      out = joined list_form list_header list_is a h b (encoding_each ts) len (count ts) (e ∙ ap (λ x. a ++ list_header len x) (sym k)) w.out n;
    }

pub of_list_payload : (ts : Trees) (len m : ℕ) (a h b : List ℕ) → count ts ≡ m → len ≤ 4294967291 → h ≡ a ++ wide_header len m → WroteEach ts h b → length b - length h ≡ len → WrotePayload (list ts) a b
of_list_payload ts len m a h b k f e w l =
    let n = body_len h b (encoding_each ts) len w.out l in
    record {
      within_limits_it = both _ _ (fits_body (encoding_each ts) len n f) w.within_limits_all;
      uniform_arrays_it = w.uniform_arrays_all;
      inside_it = w.inside_all;
      out = joined wide wide_header wide_is a h b (encoding_each ts) len (count ts) (e ∙ ap (λ x. a ++ wide_header len x) (sym k)) w.out n;
    }

pub of_map : (ps : Pairs) (len m : ℕ) (a h b : List ℕ) → pair_count ps * 2 ≡ m → len ≤ 4294967291 → h ≡ a ++ counted_header 0xc1 0xd1 len m → WrotePairs ps h b → length b - length h ≡ len → Wrote (map ps) a b
of_map ps len m a h b k f e w l =
    let n = body_len h b (encoding_pairs ps) len w.out l in
    record {
      within_limits_it = both _ _ (fits_body (encoding_pairs ps) len n f) w.within_limits_all;
      uniform_arrays_it = w.uniform_arrays_all;
      inside_it = w.inside_all;
      out = joined (counted 0xc1 0xd1) (counted_header 0xc1 0xd1) (counted_is 0xc1 0xd1) a h b (encoding_pairs ps) len (pair_count ps * 2) (e ∙ ap (λ x. a ++ counted_header 0xc1 0xd1 len x) (sym k)) w.out n;
    }

pub of_map_payload : (ps : Pairs) (len m : ℕ) (a h b : List ℕ) → pair_count ps * 2 ≡ m → len ≤ 4294967291 → h ≡ a ++ wide_header len m → WrotePairs ps h b → length b - length h ≡ len → WrotePayload (map ps) a b
of_map_payload ps len m a h b k f e w l =
    let n = body_len h b (encoding_pairs ps) len w.out l in
    record {
      within_limits_it = both _ _ (fits_body (encoding_pairs ps) len n f) w.within_limits_all;
      uniform_arrays_it = w.uniform_arrays_all;
      inside_it = w.inside_all;
      out = joined wide wide_header wide_is a h b (encoding_pairs ps) len (pair_count ps * 2) (e ∙ ap (λ x. a ++ wide_header len x) (sym k)) w.out n;
    }

pub of_array : (ts : Trees) (len m : ℕ) (a h b : List ℕ) → count ts ≡ m → len ≤ 4294967291 → m ≤ 4294967295 → h ≡ a ++ array_header len m → WroteContent ts h b → length b - length h ≡ len → Wrote (array ts) a b
of_array ts len m a h b k f few e w l =
    let body = array_constructor ts ++ payload_each ts in
    let n = body_len h b body len w.out l in
    record {
      within_limits_it = both _ _ (fits_body body len n f) (both _ _ (le_true (count ts) 4294967295 (omega arith)) w.within_limits_all);
      uniform_arrays_it = both _ _ w.one w.uniform_arrays_all;
      inside_it = w.inside_all;
      out = joined array_form array_header array_is a h b body len (count ts) (e ∙ ap (λ x. a ++ array_header len x) (sym k)) w.out n;
    }

pub of_array_payload : (ts : Trees) (len m : ℕ) (a h b : List ℕ) → count ts ≡ m → len ≤ 4294967291 → m ≤ 4294967295 → h ≡ a ++ wide_header len m → WroteContent ts h b → length b - length h ≡ len → WrotePayload (array ts) a b
of_array_payload ts len m a h b k f few e w l =
    let body = array_constructor ts ++ payload_each ts in
    let n = body_len h b body len w.out l in
    record {
      within_limits_it = both _ _ (fits_body body len n f) (both _ _ (le_true (count ts) 4294967295 (omega arith)) w.within_limits_all);
      uniform_arrays_it = both _ _ w.one w.uniform_arrays_all;
      inside_it = w.inside_all;
      out = joined wide wide_header wide_is a h b body len (count ts) (e ∙ ap (λ x. a ++ wide_header len x) (sym k)) w.out n;
    }

pub of_described : (d : Descriptor) (t : Tree) (a h i b : List ℕ) → h ≡ a ++ (0x00 ∷ []) → descriptor_fits d ≡ true → i ≡ h ++ descriptor_form d → Wrote t i b → length b ≤ 18446744073709551615 → Wrote (described d t) a b
of_described d t a h i b e f g w ok =
    let same : b ≡ a ++ (0x00 ∷ (descriptor_form d ++ encoding t)) =
    w.out ∙ (ap (λ k. k ++ encoding t) (g ∙ (ap (λ k. k ++ descriptor_form d) e ∙ append_assoc a (0x00 ∷ []) (descriptor_form d))) ∙ append_assoc a (0x00 ∷ descriptor_form d) (encoding t)) in
    let l = ap length same in
    let s = length-append a (0x00 ∷ (descriptor_form d ++ encoding t)) in
    record {
      within_limits_it = both _ _ (le_true (length (encoding (described d t))) 18446744073709551615 (omega arith)) (both _ _ f w.within_limits_it);
      uniform_arrays_it = w.uniform_arrays_it;
      inside_it = w.inside_it;
      out = same;
    }

-- Lists of parts.
then_each : (a i b x y : List ℕ) → i ≡ a ++ x → b ≡ i ++ y → b ≡ a ++ (x ++ y)
then_each a i b x y e f = f ∙ (ap (λ k. k ++ y) e ∙ append_assoc a x y)

cons : (t : Tree) (ts : Trees) (a i b : List ℕ) → Wrote t a i → WroteEach ts i b → WroteEach (more t ts) a b
cons t ts a i b p q = record {
  within_limits_all = both _ _ p.within_limits_it q.within_limits_all;
  uniform_arrays_all = both _ _ p.uniform_arrays_it q.uniform_arrays_all;
  inside_all = both _ _ p.inside_it q.inside_all;
  out = then_each a i b (encoding t) (encoding_each ts) p.out q.out;
}

pub cons_pair : (k v : Tree) (ps : Pairs) (a i j b : List ℕ) → Wrote k a i → Wrote v i j → WrotePairs ps j b → WrotePairs (pair k v ps) a b
cons_pair k v ps a i j b p q r = record {
  within_limits_all = both _ _ p.within_limits_it (both _ _ q.within_limits_it r.within_limits_all);
  uniform_arrays_all = both _ _ p.uniform_arrays_it (both _ _ q.uniform_arrays_it r.uniform_arrays_all);
  inside_all = both _ _ p.inside_it (both _ _ q.inside_it r.inside_all);
  out = then_each a i b (encoding k) (encoding v ++ encoding_pairs ps) p.out (then_each i j b (encoding v) (encoding_pairs ps) q.out r.out);
}

same_code : (c : ℕ) (o : Option ℕ) → o ≡ Some c → same_constructor (Some c) o ≡ true
same_code c o e = subst (λ k. same_constructor (Some c) k ≡ true) (sym e) (nat_eq-refl c)

cons_payload : (c : ℕ) (t : Tree) (ts : Trees) (a i b : List ℕ) → constructor t ≡ Some c → WrotePayload t a i → WrotePayloads c ts i b → WrotePayloads c (more t ts) a b
cons_payload c t ts a i b k p q = record {
  within_limits_all = both _ _ p.within_limits_it q.within_limits_all;
  uniform_arrays_all = both _ _ p.uniform_arrays_it q.uniform_arrays_all;
  inside_all = both _ _ p.inside_it q.inside_all;
  one = both _ _ (same_code c (constructor t) k) q.one;
  out = then_each a i b (payload t) (payload_each ts) p.out q.out;
}

nothing : (a : List ℕ) → a ≡ a ++ []
nothing a = sym (append-nil a)

pub none_each : (a : List ℕ) → WroteEach no_trees a a
none_each a = record { within_limits_all = refl; uniform_arrays_all = refl; inside_all = refl; out = nothing a }

pub none_pairs : (a : List ℕ) → WrotePairs no_pairs a a
none_pairs a = record { within_limits_all = refl; uniform_arrays_all = refl; inside_all = refl; out = nothing a }

pub none_payloads : (c : ℕ) (a : List ℕ) → WrotePayloads c no_trees a a
none_payloads c a = record { within_limits_all = refl; uniform_arrays_all = refl; inside_all = refl; one = refl; out = nothing a }

pub each_step : (xs : List Value) (i : ℕ) (v : Value) (start a mid : List ℕ) → i < length xs → v ≡ get_or xs i v
    → ((b : List ℕ) → WroteEach (all_of (drop i xs)) a b → WroteEach (all_of xs) start b) → Wrote (tree_of v) a mid
    → (b : List ℕ) → WroteEach (all_of (drop (i + 1) xs)) mid b → WroteEach (all_of xs) start b
each_step xs i v start a mid lt is inv one b rest =
    let r : WroteEach (all_of (drop (suc i) xs)) mid b = rw add-one at rest in
    let o = subst (λ w. Wrote (tree_of w) a mid) is one in
    inv b (rw (drop-cons xs i v lt) (cons (tree_of (get_or xs i v)) (all_of (drop (suc i) xs)) a mid b o r))

pub pair_step : (es : List (Value × Value)) (i : ℕ) (e : Value × Value) (start a mid : List ℕ) → i < length es → e ≡ get_or es i e
    → ((b : List ℕ) → WrotePairs (pairs_trees (drop i es)) a b → WrotePairs (pairs_trees es) start b)
    → ((ps : Pairs) (b : List ℕ) → WrotePairs ps mid b → WrotePairs (pair (tree_of e.0) (tree_of e.1) ps) a b)
    → (b : List ℕ) → WrotePairs (pairs_trees (drop (i + 1) es)) mid b → WrotePairs (pairs_trees es) start b
pair_step es i e start a mid lt is inv one b rest =
    let r : WrotePairs (pairs_trees (drop (suc i) es)) mid b = rw add-one at rest in
    let o = subst (λ w. WrotePairs (pair (tree_of w.0) (tree_of w.1) (pairs_trees (drop (suc i) es))) a b) is (one (pairs_trees (drop (suc i) es)) b r) in
    inv b (rw (drop-cons es i e lt) o)

pub payload_step : (c : ℕ) (xs : List Value) (i : ℕ) (v : Value) (start a mid : List ℕ) → i < length xs → v ≡ get_or xs i v
    → ((b : List ℕ) → WrotePayloads c (all_of (drop i xs)) a b → WrotePayloads c (all_of xs) start b) → constructor (tree_of v) ≡ Some c → WrotePayload (tree_of v) a mid
    → (b : List ℕ) → WrotePayloads c (all_of (drop (i + 1) xs)) mid b → WrotePayloads c (all_of xs) start b
payload_step c xs i v start a mid lt is inv code one b rest =
    let r : WrotePayloads c (all_of (drop (suc i) xs)) mid b = rw add-one at rest in
    let o = subst (λ w. WrotePayload (tree_of w) a mid) is one in
    let k = subst (λ w. constructor (tree_of w) ≡ Some c) is code in
    inv b (rw (drop-cons xs i v lt) (cons_payload c (tree_of (get_or xs i v)) (all_of (drop (suc i) xs)) a mid b k o r))

-- The content of an array: its constructor is that of the first element.
pub of_content : (xs : List Value) (v : Value) (c : ℕ) (a h b : List ℕ) → 0 < length xs → v ≡ get_or xs 0 v → constructor (tree_of v) ≡ Some c → h ≡ a ++ (c ∷ []) → WrotePayloads c (all_of xs) h b → WroteContent (all_of xs) a b
of_content [] v c a h b lt is k e w = absurd (omega arith)
of_content (x ∷ xs) v c a h b lt is k e w =
    let o : constructor (tree_of x) ≡ Some c = subst (λ y. constructor (tree_of y) ≡ Some c) is k in
    record {
      within_limits_all = w.within_limits_all;
      uniform_arrays_all = w.uniform_arrays_all;
      inside_all = w.inside_all;
      one = subst (λ y. each_constructor y (all_of (x ∷ xs)) ≡ true) (sym o) w.one;
      out = subst (λ y. b ≡ a ++ (code_list y ++ payload_each (all_of (x ∷ xs)))) (sym o) (then_each a h b (c ∷ []) (payload_each (all_of (x ∷ xs))) e w.out);
    }

pub pair_count-all : (es : List (Value × Value)) → pair_count (pairs_trees es) ≡ length es
pair_count-all [] = refl
pair_count-all (e ∷ es) = let k = pair_count-all es in omega arith

pub same_len : (x y len : ℕ) (h b : List ℕ) → nat_eq (x - y) len ≡ true → x ≡ length b → y ≡ length h → length b - length h ≡ len
same_len x y len h b e p q = let k : x - y ≡ len = grind (arith, nat_tests) in omega arith

-- Twice the number of pairs, where it is not cut off.
pub twice : (es : List (Value × Value)) (m : ℕ) → m ≡ min (length es * 2) 18446744073709551615 → m ≤ 4294967295 → pair_count (pairs_trees es) * 2 ≡ m
twice es m f small = let k = pair_count-all es in omega arith

-- Room for `n - i` numbers of width `w`, at number `i`.
suc_times : (k w : ℕ) → suc k * w ≡ w + k * w
suc_times k w = omega arith

rest_times : (n i w : ℕ) → i < n → (n - i) * w ≡ w + (n - (i + 1)) * w
rest_times n i w lt = let e : n - i ≡ suc (n - (i + 1)) = omega arith in ap (λ k. k * w) e ∙ suc_times (n - (i + 1)) w

fewer : (len w k cap : ℕ) → len + (w + k) ≤ cap → len + w ≤ cap
fewer len w k cap e = omega arith

moved : (len w k after cap : ℕ) → len + (w + k) ≤ cap → after ≡ len + w → after + k ≤ cap
moved len w k after cap r e = omega arith

pub room_now : (n i w len cap : ℕ) → i < n → len + (n - i) * w ≤ cap → len + w ≤ cap
room_now n i w len cap lt room =
    let e = subst (λ k. len + k ≤ cap) (rest_times n i w lt) room in
    fewer len w ((n - (i + 1)) * w) cap e

pub room_next : (n i w len after cap : ℕ) → i < n → len + (n - i) * w ≤ cap → after ≡ len + w → after + (n - (i + 1)) * w ≤ cap
room_next n i w len after cap lt room e =
    let r = subst (λ k. len + k ≤ cap) (rest_times n i w lt) room in
    moved len w ((n - (i + 1)) * w) after cap r e

-- The item at an index, whatever stands for no item.
pub same_item : (es : List (Value × Value)) (i : ℕ) (d e : Value × Value) → i < length es → d ≡ get_or es i d → e ≡ get_or es i e → d ≡ e
same_item [] i d e lt a b = absurd (omega arith)
same_item (x ∷ xs) zero d e lt a b = a ∙ sym b
same_item (x ∷ xs) (suc i) d e lt a b = same_item xs i d e (omega arith) a b

pub grows_more : (a b c : Vec ℕ Global) → Grows a b → Grows b c → Grows a c
grows_more a b c h k = (omega arith, (h.1.0 ++ k.1.0, k.1.1 ∙ (ap (λ x. x ++ k.1.0) h.1.1 ∙ append_assoc a.items h.1.0 k.1.0)))
