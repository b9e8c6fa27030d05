-- What is left after values one after another, and where the fault of bytes is, at each step.
use Rattle.std.proofs.Math.Nat.{zero-min}
use Rattle.std.proofs.Common.{◌≡◌, ℕ, zero, suc, min, ◌+◌, ◌-◌, ◌/◌, ◌%◌, ◌*◌, ◌<◌, ◌≤◌, Bool, true, false, IsTrue, List, [], ◌∷◌, ◌++◌, length, Option, Some, None, Result, Ok, Err, IfOk, OnOk, OnErr, if◌then◌else◌, ◌==◌, refl, sym, ap, ◌∙◌, arith, length-append}
use Rattle.amqp_data.specs.FormatCode.{code_of}
use Rattle.amqp_data.specs.declared.format_code.EncodingCodes.{EncodingCodes}
use Rattle.amqp_frame.specs.Code.{category}
use Rattle.amqp_frame.specs.declared.code.Category.{Category}
use Rattle.amqp_ser.specs.Tree as tree
use Rattle.amqp_ser.specs.Tree.{Scalar, Descriptor, Tree, Pairs, trees_of, no_pairs}
use Rattle.amqp_value.specs.Image.{insert_tree}
use Rattle.amqp_decode.specs.Codes.{primitive_of, shape_of_code}
use Rattle.amqp_decode.specs.Scalars.{and_then, scalar_in, scalar_tree}
use Rattle.amqp_decode.specs.Encodes.{IsNumber, IsPayload, IsCounted}
use Rattle.amqp_decode.specs.Parsed.{ValueReader, ContentReader, content_at, counted_in, descriptor_at, gather, insert, all, with_rest, payload_in, parse_list, parse_map, parse_array, content_of, value_in_bytes, parse, parse_content}
use Rattle.amqp_decode.specs.Places.{Finder, PayloadFinder, PlaceFromEnd, skips, place_of_values, place_of_payload, place_of_array, place_of_descriptor, place_in, place_in_item, place_around, content_place, at_start}
use Rattle.amqp_decode.specs.WithoutBytes.{has_no_payload}
use Rattle.amqp_decode.specs.declared.payload.Count.{Count}
use Rattle.amqp_decode.specs.declared.payload.PayloadShape.TheVariants as shape
use Rattle.amqp_decode.proofs.Finds.{cut-seam}
use Rattle.amqp_decode.proofs.Means.{Says, payload-says, counted-says}
use Rattle.amqp_decode.proofs.Whole.{nil-from_length}
use Rattle.amqp_decode.proofs.Steps.{parse-at, parse_content-at, array-found, array-none, not-zero}

-- Lengths of what is read.
payload-len : (k : Category) (a x : List ℕ) → IsPayload k a x → length x ≤ length a
payload-len _ _ _ (IsPayload.of_width x) = omega arith
payload-len _ _ _ (IsPayload.of_one_byte x) = omega arith
payload-len _ _ _ (IsPayload.of_four_bytes size x h) = omega (arith, length-append size x)

pub content-shorter : (k : Category) (s c r : List ℕ) → content_at k s ≡ Some (c, r) → length c + length r ≤ length s
content-shorter k s c r e = from (content_at k s) (payload-says k s) e
  where
    from : (o : Option (List ℕ × List ℕ)) → Says (IsPayload k) s o → o ≡ Some (c, r) → length c + length r ≤ length s
    from None h e = absurd cc
    from (Some p) h e =
        let same : p ≡ (c, r) = cc in
        omega (arith, ap length h.1, length-append h.0 p.1, payload-len k h.0 p.0 h.2, ap (λ q. length q.0) same, ap (λ q. length q.1) same)

counted-len : (k : Count) (s : List ℕ) (n : ℕ) (body : List ℕ) → IsCounted k s n body → length body ≤ length s
counted-len _ _ _ _ (IsCounted.in_none body) = omega arith
counted-len _ _ _ _ (IsCounted.in_one_byte n body) = omega arith
counted-len _ _ _ _ (IsCounted.in_four_bytes bytes n body h) = omega (arith, length-append bytes body)

pub counted-shorter : (k : Count) (s : List ℕ) (n : ℕ) (body : List ℕ) → counted_in k s ≡ Some (n, body) → length body ≤ length s
counted-shorter k s n body e = counted-len k s n body (counted-says k s (n, body) e)

number-len : (bytes : List ℕ) (n : ℕ) → IsNumber bytes n → 0 < length bytes
number-len _ _ (IsNumber.four_bytes a b c d) = omega arith

odd-len : (k : Count) (s : List ℕ) (n : ℕ) (body : List ℕ) → IsCounted k s n body → (n % 2 ≡ 0 → ⊥) → length body < length s
odd-len _ _ _ _ (IsCounted.in_none body) odd = absurd (odd refl)
odd-len _ _ _ _ (IsCounted.in_one_byte n body) odd = omega arith
odd-len _ _ _ _ (IsCounted.in_four_bytes bytes n body h) odd = omega (arith, length-append bytes body, number-len bytes n h)

pub odd-shorter : (k : Count) (s : List ℕ) (n : ℕ) (body : List ℕ) → counted_in k s ≡ Some (n, body) → (n % 2 ≡ 0 → ⊥) → length body < length s
odd-shorter k s n body e odd = odd-len k s n body (counted-says k s (n, body) e) odd

-- What is left.
abbrev rest_of : {A : Type 0} → Option (A × List ℕ) → Option (List ℕ)
rest_of None = None
rest_of (Some p) = Some p.1

all-found : {A : Type 0} (o : Option (A × List ℕ)) → rest_of o ≡ Some [] → (a : A) × (and_then o all ≡ Some a)
all-found None e = absurd cc
all-found (Some (a, [])) e = (a, refl)
all-found (Some (a, b ∷ s)) e = absurd cc

all-none : {A : Type 0} (o : Option (A × List ℕ)) → (rest_of o ≡ Some [] → ⊥) → and_then o all ≡ None
all-none None h = refl
all-none (Some (a, [])) h = absurd (h refl)
all-none (Some (a, b ∷ s)) h = refl

module _ (f : ValueReader) where
  gather-on : (n : ℕ) (done : List Tree) (o : Option (Tree × List ℕ)) → ((r : Tree × List ℕ) → rest_of (gather f n r.1 (done ++ r.0 ∷ [])) ≡ skips f n r.1)
      → rest_of (and_then o (λ r. gather f n r.1 (done ++ r.0 ∷ []))) ≡ and_then o (λ r. skips f n r.1)
  gather-on n done None h = refl
  gather-on n done (Some r) h = h r

  gather-skips : (n : ℕ) (s : List ℕ) (done : List Tree) → rest_of (gather f n s done) ≡ skips f n s
  gather-skips zero s done = refl
  gather-skips (suc n) s done = gather-on n done (f s) (λ r. gather-skips n r.1 (done ++ r.0 ∷ []))

  value-on : (n : ℕ) (done : Pairs) (k : Tree) (o : Option (Tree × List ℕ)) → ((v : Tree × List ℕ) → rest_of (insert f n v.1 (insert_tree done k v.0)) ≡ skips f (2 * n) v.1)
      → rest_of (and_then o (λ v. insert f n v.1 (insert_tree done k v.0))) ≡ and_then o (λ r. skips f (2 * n) r.1)
  value-on n done k None h = refl
  value-on n done k (Some v) h = h v

  key-on : (n : ℕ) (done : Pairs) (o : Option (Tree × List ℕ)) → ((k v : Tree × List ℕ) → rest_of (insert f n v.1 (insert_tree done k.0 v.0)) ≡ skips f (2 * n) v.1)
      → rest_of (and_then o (λ k. and_then (f k.1) (λ v. insert f n v.1 (insert_tree done k.0 v.0)))) ≡ and_then o (λ r. skips f (suc (2 * n)) r.1)
  key-on n done None h = refl
  key-on n done (Some k) h = value-on n done k.0 (f k.1) (h k)

  insert-skips : (n : ℕ) (s : List ℕ) (done : Pairs) → rest_of (insert f n s done) ≡ skips f (2 * n) s
  insert-skips zero s done = refl
  insert-skips (suc n) s done =
      let two : 2 * suc n ≡ suc (suc (2 * n)) = omega arith in
      key-on n done (f s) (λ k v. insert-skips n v.1 (insert_tree done k.0 v.0)) ∙ ap (λ m. skips f m s) (sym two)

  pub gathered : (n : ℕ) (s : List ℕ) → skips f n s ≡ Some [] → (ts : List Tree) × (and_then (gather f n s []) all ≡ Some ts)
  gathered n s e = all-found (gather f n s []) (gather-skips n s [] ∙ e)

  pub not-gathered : (n : ℕ) (s : List ℕ) → (skips f n s ≡ Some [] → ⊥) → and_then (gather f n s []) all ≡ None
  not-gathered n s h = all-none (gather f n s []) (λ e. h (sym (gather-skips n s []) ∙ e))

  list-found : (n : ℕ) (s : List ℕ) → skips f n s ≡ Some [] → (t : Tree) × (parse_list f (n, s) ≡ Some t)
  list-found n s e =
      let h = gathered n s e in
      (tree.list (trees_of h.0), rw h.1 refl)

  not-list : (n : ℕ) (s : List ℕ) → (skips f n s ≡ Some [] → ⊥) → parse_list f (n, s) ≡ None
  not-list n s h = rw (not-gathered n s h) refl

  even-parse : (n : ℕ) (s : List ℕ) → n % 2 ≡ 0 → parse_map f (n, s) ≡ and_then (and_then (insert f (n / 2) s no_pairs) all) (λ ps. Some (tree.map ps))
  even-parse n s even = rw even refl

  half-skips : (n : ℕ) (s : List ℕ) → n % 2 ≡ 0 → rest_of (insert f (n / 2) s no_pairs) ≡ skips f n s
  half-skips n s even =
      let half : 2 * (n / 2) ≡ n = omega (arith, even) in
      insert-skips (n / 2) s no_pairs ∙ ap (λ m. skips f m s) half

  map-found : (n : ℕ) (s : List ℕ) → n % 2 ≡ 0 → skips f n s ≡ Some [] → (t : Tree) × (parse_map f (n, s) ≡ Some t)
  map-found n s even e =
      let h = all-found (insert f (n / 2) s no_pairs) (half-skips n s even ∙ e) in
      (tree.map h.0, even-parse n s even ∙ ap (λ o. and_then o (λ ps. Some (tree.map ps))) h.1)

  not-map : (n : ℕ) (s : List ℕ) → n % 2 ≡ 0 → (skips f n s ≡ Some [] → ⊥) → parse_map f (n, s) ≡ None
  not-map n s even left =
      let h = all-none (insert f (n / 2) s no_pairs) (λ e. left (sym (half-skips n s even) ∙ e)) in
      even-parse n s even ∙ ap (λ o. and_then o (λ ps. Some (tree.map ps))) h

  -- The loop over values.
  pub skips-step : (n i : ℕ) (s rest : List ℕ) (t : Tree) → i < n → f s ≡ Some (t, rest) → skips f (n - (i + 1)) rest ≡ skips f (n - i) s
  skips-step n i s rest t lt e =
      let same : n - i ≡ suc (n - (i + 1)) = omega arith in
      let one : skips f (suc (n - (i + 1))) s ≡ skips f (n - (i + 1)) rest = rw e refl in
      sym (ap (λ m. skips f m s) same ∙ one)

  pub skips-none : (n i : ℕ) (s body : List ℕ) → i < n → skips f (n - i) s ≡ skips f n body → f s ≡ None → skips f n body ≡ Some [] → ⊥
  skips-none n i s body lt kept e is =
      let same : n - i ≡ suc (n - (i + 1)) = omega arith in
      let one : skips f (suc (n - (i + 1))) s ≡ None = rw e refl in
      let no : skips f n body ≡ None = sym kept ∙ ap (λ m. skips f m s) same ∙ one in
      absurd cc

  pub skips-end : (n i : ℕ) (s body : List ℕ) → n ≤ i → skips f (n - i) s ≡ skips f n body → skips f n body ≡ Some s
  skips-end n i s body e kept =
      let none : n - i ≡ 0 = omega (arith, e) in
      sym kept ∙ ap (λ m. skips f m s) none

  pub skips-filled : (n i : ℕ) (s body : List ℕ) → n ≤ i → skips f (n - i) s ≡ skips f n body → length s ≡ 0 → skips f n body ≡ Some []
  skips-filled n i s body e kept empty = skips-end n i s body e kept ∙ ap Some (nil-from_length s empty)

  pub skips-left : (n i : ℕ) (s body : List ℕ) → n ≤ i → skips f (n - i) s ≡ skips f n body → (length s ≡ 0 → ⊥) → skips f n body ≡ Some [] → ⊥
  skips-left n i s body e kept left is =
      let both : Some s ≡ Some [] = sym (skips-end n i s body e kept) ∙ is in
      let empty : s ≡ [] = cc in
      left (ap length empty)

module _ (c : Finder) (f : ValueReader) (level : ℕ) (after : ℕ) where
  pub places-step : (n i : ℕ) (s rest : List ℕ) (t : Tree) → i < n → f s ≡ Some (t, rest)
      → place_of_values c f level (n - (i + 1)) after rest ≡ place_of_values c f level (n - i) after s
  places-step n i s rest t lt e =
      let same : n - i ≡ suc (n - (i + 1)) = omega arith in
      let one : place_of_values c f level (suc (n - (i + 1))) after s ≡ place_of_values c f level (n - (i + 1)) after rest = rw e refl in
      sym (ap (λ m. place_of_values c f level m after s) same ∙ one)

  pub places-here : (n i : ℕ) (s : List ℕ) → i < n → f s ≡ None → c after s ≡ place_of_values c f level (n - i) after s
  places-here n i s lt e =
      let same : n - i ≡ suc (n - (i + 1)) = omega arith in
      let one : place_of_values c f level (suc (n - (i + 1))) after s ≡ c after s = rw e refl in
      sym (ap (λ m. place_of_values c f level m after s) same ∙ one)

  pub places-end : (n i : ℕ) (s : List ℕ) → n ≤ i → at_start level after s ≡ place_of_values c f level (n - i) after s
  places-end n i s e =
      let none : n - i ≡ 0 = omega (arith, e) in
      sym (ap (λ m. place_of_values c f level m after s) none)

-- Elements without bytes leave the bytes before them, so the first shows what all are.
first-of : {A : Type 0} (f : ℕ → A) → ((n : ℕ) → f (suc n) ≡ f 1) → (n : ℕ) → f (min n 1) ≡ f n
first-of f same zero = ap f (zero-min 1)
first-of f same (suc n) =
    let one : min (suc n) 1 ≡ 1 = omega arith in
    ap f one ∙ sym (same n)

skips-same : (f : ValueReader) (s : List ℕ) (t : Tree) → f s ≡ Some (t, s) → (n : ℕ) → skips f n s ≡ Some s
skips-same f s t e zero = refl
skips-same f s t e (suc n) = rw e (skips-same f s t e n)

places-same : (c : Finder) (f : ValueReader) (level after : ℕ) (s : List ℕ) (t : Tree) → f s ≡ Some (t, s) → (n : ℕ) → place_of_values c f level n after s ≡ at_start level after s
places-same c f level after s t e zero = refl
places-same c f level after s t e (suc n) = rw e (places-same c f level after s t e n)

module _ (d : ℕ) (c : EncodingCodes) (s : List ℕ) (none : has_no_payload c ≡ true) where
  no-content : content_at (category (code_of c)) s ≡ Some ([], s)
  unfolding category
  no-content = rw none (cut-seam [] s)

  left : payload_in (parse_content d) c s ≡ and_then (parse_content d c []) (with_rest s)
  left = rw no-content refl

  pub first-skips : (n m : ℕ) → m ≡ min n 1 → skips (payload_in (parse_content d) c) m s ≡ skips (payload_in (parse_content d) c) n s
  first-skips n m one = ap (λ k. skips (payload_in (parse_content d) c) k s) one ∙ first-of (λ k. skips (payload_in (parse_content d) c) k s) (by_item (parse_content d c []) left) n
    where
      by_item : (o : Option Tree) → payload_in (parse_content d) c s ≡ and_then o (with_rest s)
          → (m : ℕ) → skips (payload_in (parse_content d) c) (suc m) s ≡ skips (payload_in (parse_content d) c) 1 s
      by_item None e m = rw e refl
      by_item (Some t) e m = skips-same (payload_in (parse_content d) c) s t e (suc m) ∙ sym (skips-same (payload_in (parse_content d) c) s t e 1)

  pub first-places : (k : Finder) (level after n m : ℕ) → m ≡ min n 1 → place_of_values k (payload_in (parse_content d) c) level m after s ≡ place_of_values k (payload_in (parse_content d) c) level n after s
  first-places k level after n m one = ap (λ i. place_of_values k (payload_in (parse_content d) c) level i after s) one ∙ first-of (λ i. place_of_values k (payload_in (parse_content d) c) level i after s) (by_item (parse_content d c []) left) n
    where
      by_item : (o : Option Tree) → payload_in (parse_content d) c s ≡ and_then o (with_rest s)
          → (m : ℕ) → place_of_values k (payload_in (parse_content d) c) level (suc m) after s ≡ place_of_values k (payload_in (parse_content d) c) level 1 after s
      by_item None e m = rw e refl
      by_item (Some t) e m = places-same k (payload_in (parse_content d) c) level after s t e (suc m) ∙ sym (places-same k (payload_in (parse_content d) c) level after s t e 1)

abbrev from_end : ℕ → ℕ → PlaceFromEnd
from_end left level = (left, level)

-- The depth.
pub from_end-zero : (d a : ℕ) (s : List ℕ) → d ≡ 0 → (length s + a, d) ≡ place_in d a s
unfolding place_in
from_end-zero zero a s e = refl
from_end-zero (suc d) a s e = absurd (omega arith)

pub from_end-at : (d a : ℕ) (s : List ℕ) → 0 < d → place_around (d - 1) a s ≡ place_in d a s
unfolding place_in place_in_item
from_end-at zero a s lt = absurd (omega arith)
from_end-at (suc d) a s lt =
    let e : suc d - 1 ≡ d = omega arith in
    rw e refl

pub item-from_end-zero : (d : ℕ) (c : EncodingCodes) (a : ℕ) (s : List ℕ) → d ≡ 0 → (length s + a, 0) ≡ place_in_item d c a s
unfolding place_in_item
item-from_end-zero zero c a s e = refl
item-from_end-zero (suc d) c a s e = absurd (omega arith)

pub item-from_end-at : (d : ℕ) (c : EncodingCodes) (a : ℕ) (s : List ℕ) → 0 < d → place_of_payload (content_place (d - 1)) d c a s ≡ place_in_item d c a s
unfolding place_in place_in_item
item-from_end-at zero c a s lt = absurd (omega arith)
item-from_end-at (suc d) c a s lt =
    let e : suc d - 1 ≡ d = omega arith in
    rw e refl

-- The first byte of a value.
pub from_end-empty : (d a : ℕ) (s : List ℕ) → 0 < d → length s ≡ 0 → (length s + a, d) ≡ place_in d a s
from_end-empty d a (b ∷ s) lt e = absurd (omega arith)
from_end-empty d a [] lt e =
    let level : suc (d - 1) ≡ d = omega arith in
    let none : 0 + a ≡ a = omega arith in
    ap (λ n. from_end n d) none ∙ sym (ap (λ l. from_end a l) level) ∙ from_end-at d a [] lt

module _ (d a b : ℕ) (s : List ℕ) (lt : 0 < d) (some : b ≡ 0 → ⊥) where
  pub from_end-code : (c : EncodingCodes) → primitive_of b ≡ Some c → place_of_payload (content_place (d - 1)) d c a s ≡ place_in d a (b ∷ s)
  from_end-code c is =
      let level : suc (d - 1) ≡ d = omega arith in
      let inside : place_around (d - 1) a (b ∷ s) ≡ place_of_payload (content_place (d - 1)) (suc (d - 1)) c a s = rw (not-zero b some, is) refl in
      sym (ap (λ l. place_of_payload (content_place (d - 1)) l c a s) level) ∙ sym inside ∙ from_end-at d a (b ∷ s) lt

  pub from_end-no_code : primitive_of b ≡ None → (suc (length s) + a, d) ≡ place_in d a (b ∷ s)
  from_end-no_code is =
      let level : suc (d - 1) ≡ d = omega arith in
      let inside : place_around (d - 1) a (b ∷ s) ≡ (suc (length s) + a, suc (d - 1)) = rw (not-zero b some, is) refl in
      sym (ap (λ l. from_end (suc (length s) + a) l) level) ∙ sym inside ∙ from_end-at d a (b ∷ s) lt

  pub parse-code : (c : EncodingCodes) → primitive_of b ≡ Some c → payload_in (content_of (parse (d - 1)) (parse_content (d - 1))) c s ≡ parse d (b ∷ s)
  parse-code c is =
      let inside : value_in_bytes (parse (d - 1)) (parse_content (d - 1)) (b ∷ s) ≡ payload_in (content_of (parse (d - 1)) (parse_content (d - 1))) c s = rw (not-zero b some, is) refl in
      sym (parse-at d (b ∷ s) lt ∙ inside)

  pub parse-no_code : primitive_of b ≡ None → parse d (b ∷ s) ≡ None
  parse-no_code is =
      let inside : value_in_bytes (parse (d - 1)) (parse_content (d - 1)) (b ∷ s) ≡ None = rw (not-zero b some, is) refl in
      parse-at d (b ∷ s) lt ∙ inside

-- A described value.
pub described-ok : {T E : Type 0} (d : ℕ) (s rest : List ℕ) (r : Result T E) (now : T → List ℕ) → ((x : Descriptor) × (descriptor_at s ≡ Some (x, rest)))
    → IfOk r (λ v. (t : Tree) × (parse d rest ≡ Some (t, now v))) → IfOk r (λ v. (t : Tree) × (value_in_bytes (parse d) (parse_content d) (0 ∷ s) ≡ Some (t, now v)))
described-ok d s rest (Ok v) now e h = (tree.described e.0 h.0, rw (e.1, h.1) refl)
described-ok d s rest (Err g) now e h = tt

-- What follows from success, and from an error.
pub on-ok : {T E P Q : Type 0} (r : Result T E) → (P → Q) → OnOk r P → OnOk r Q
on-ok (Ok v) f h = f h
on-ok (Err e) f h = h

pub on-err : {T E P Q : Type 0} (r : Result T E) → (P → Q) → OnErr r P → OnErr r Q
on-err (Ok v) f h = h
on-err (Err e) f h = f h

-- An array element.
module _ (d : ℕ) (c : EncodingCodes) (s : List ℕ) (lt : 0 < d) where
  pub item-as : payload_in (content_of (parse (d - 1)) (parse_content (d - 1))) c s ≡ payload_in (parse_content d) c s
  item-as = by_content (content_at (category (code_of c)) s)
    where
      by_content : (o : Option (List ℕ × List ℕ))
          → and_then o (λ p. and_then (content_of (parse (d - 1)) (parse_content (d - 1)) c p.0) (with_rest p.1)) ≡ and_then o (λ p. and_then (parse_content d c p.0) (with_rest p.1))
      by_content None = refl
      by_content (Some p) = ap (λ q. and_then q (with_rest p.1)) (sym (parse_content-at d c p.0 lt))

-- A content, by its shape.
module _ (d : ℕ) (c : EncodingCodes) (s : List ℕ) where
  pub scalar-found : shape_of_code c ≡ shape.Scalar → (x : Scalar) → scalar_in c s ≡ Some x → content_of (parse d) (parse_content d) c s ≡ Some (tree.scalar x)
  scalar-found is x e = rw (is, e) refl

  module _ (k : Count) (n : ℕ) (body : List ℕ) (e : counted_in k s ≡ Some (n, body)) where
    pub list-content : shape_of_code c ≡ shape.List k → skips (parse d) n body ≡ Some [] → (t : Tree) × (content_of (parse d) (parse_content d) c s ≡ Some t)
    list-content is filled =
        let h = list-found (parse d) n body filled in
        (h.0, rw (is, e) h.1)

    pub no_list-content : shape_of_code c ≡ shape.List k → (skips (parse d) n body ≡ Some [] → ⊥) → content_of (parse d) (parse_content d) c s ≡ None
    no_list-content is left = rw (is, e) (not-list (parse d) n body left)

    pub map-content : shape_of_code c ≡ shape.Map k → n % 2 ≡ 0 → skips (parse d) n body ≡ Some [] → (t : Tree) × (content_of (parse d) (parse_content d) c s ≡ Some t)
    map-content is even filled =
        let h = map-found (parse d) n body even filled in
        (h.0, rw (is, e) h.1)

    pub no_map-content : shape_of_code c ≡ shape.Map k → n % 2 ≡ 0 → (skips (parse d) n body ≡ Some [] → ⊥) → content_of (parse d) (parse_content d) c s ≡ None
    no_map-content is even left = rw (is, e) (not-map (parse d) n body even left)

-- An array, given its constructor.
module _ (d n : ℕ) (body : List ℕ) where
  pub bare-array : length body ≡ 0 → n ≡ 0 → (t : Tree) × (parse_array (parse_content d) (n, body) ≡ Some t)
  bare-array len none = bare n body len none
    where
      bare : (m : ℕ) (s : List ℕ) → length s ≡ 0 → m ≡ 0 → (t : Tree) × (parse_array (parse_content d) (m, s) ≡ Some t)
      bare zero [] len none = (tree.array (trees_of []), refl)
      bare (suc m) s len none = absurd (omega arith)
      bare zero (b ∷ s) len none = absurd (omega arith)

  module _ (b : ℕ) (s : List ℕ) (is : body ≡ b ∷ s) (c : EncodingCodes) (e : primitive_of b ≡ Some c) where
    pub items-found : skips (payload_in (parse_content d) c) n s ≡ Some [] → (t : Tree) × (parse_array (parse_content d) (n, body) ≡ Some t)
    items-found filled =
        let h = gathered (payload_in (parse_content d) c) n s filled in
        (tree.array (trees_of h.0), array-found (parse_content d) b c n body s h.0 e is h.1)

    pub items-from_end : (after : ℕ) → place_of_values (place_in_item d c) (payload_in (parse_content d) c) d n after s ≡ place_of_array (place_in_item d) (parse_content d) d after (n, body)
    items-from_end after = rw (is, e) refl

    pub no_items : (skips (payload_in (parse_content d) c) n s ≡ Some [] → ⊥) → parse_array (parse_content d) (n, body) ≡ None
    no_items left = array-none (parse_content d) b c n body s e is (not-gathered (payload_in (parse_content d) c) n s left)
