-- The parsing functions at each step of the reader.
use Rattle.std.proofs.Common.{◌≡◌, ℕ, zero, suc, ◌+◌, ◌-◌, ◌/◌, ◌%◌, ◌<◌, Bool, true, false, IsTrue, List, [], ◌∷◌, ◌++◌, length, map, Option, Some, None, Result, Ok, Err, if◌then◌else◌, ◌==◌, refl, sym, ap, ◌∙◌, arith}
use Rattle.std.proofs.lemmas.Grind.{common_steps}
use Rattle.std.specs.Prelude.{IfOk, IfErr}
use Rattle.amqp_data.specs.FormatCode.{code_of}
use Rattle.amqp_data.specs.declared.error.Error.{Error}
use Rattle.amqp_data.specs.declared.error.Error.TheVariants.{OutOfMemory, TooLong}
use Rattle.amqp_data.specs.declared.format_code.EncodingCodes.{EncodingCodes}
use Rattle.amqp_frame.specs.Code.{category}
use Rattle.amqp_ser.specs.Tree as tree
use Rattle.amqp_ser.specs.Tree.{Tree, Pairs, trees_of, no_pairs}
use Rattle.amqp_value.specs.Image.{insert_tree}
use Rattle.amqp_value.specs.TreeOf.{tree_of}
use Rattle.amqp_value.specs.declared.value.Value.{Value}
use Rattle.amqp_decode.specs.Codes.{is_primitive, primitive_of}
use Rattle.amqp_decode.specs.Scalars.{and_then}
use Rattle.amqp_decode.specs.Parsed.{ValueReader, ContentReader, gather, insert, all, parse_list, parse_map, parse_array, content_at, with_rest, payload_in, content_of, value_in_bytes, parse, parse_content}
use Rattle.amqp_decode.proofs.CodeLemmas.{named, primitive-found, primitive-nonzero}

pub parse_content-at : (d : ℕ) (c : EncodingCodes) (s : List ℕ) → 0 < d → parse_content d c s ≡ content_of (parse (d - 1)) (parse_content (d - 1)) c s
unfolding parse_content parse
parse_content-at zero c s lt = absurd (omega arith)
parse_content-at (suc d) c s lt =
    let e : suc d - 1 ≡ d = omega arith in
    rw e refl

pub parse-zero : (d : ℕ) (s : List ℕ) → d ≡ 0 → parse d s ≡ None
unfolding parse
parse-zero zero s e = refl
parse-zero (suc d) s e = absurd (omega arith)

pub parse-at : (d : ℕ) (s : List ℕ) → 0 < d → parse d s ≡ value_in_bytes (parse (d - 1)) (parse_content (d - 1)) s
unfolding parse_content parse
parse-at zero s lt = absurd (omega arith)
parse-at (suc d) s lt =
    let e : suc d - 1 ≡ d = omega arith in
    rw e refl

pub parse-empty : (d : ℕ) (s : List ℕ) → 0 < d → length s ≡ 0 → parse d s ≡ None
parse-empty d [] lt e = rw (parse-at d [] lt) refl
parse-empty d (b ∷ s) lt e = absurd (omega arith)

-- The payload of a code, whose content is read at depth `d`.
pub item-zero : (d : ℕ) (c : EncodingCodes) (s : List ℕ) → d ≡ 0 → payload_in (parse_content d) c s ≡ None
unfolding parse_content
item-zero (suc d) c s e = absurd (omega arith)
item-zero zero c s e = by_content (content_at (category (code_of c)) s)
  where
    by_content : (o : Option (List ℕ × List ℕ)) → and_then o (λ p. and_then (parse_content 0 c p.0) (with_rest p.1)) ≡ None
    by_content None = refl
    by_content (Some p) = refl

module _ (d : ℕ) (c : EncodingCodes) (s content rest : List ℕ) where
  pub item-ok : (r : Result Value Error) → 0 < d → content_at (category (code_of c)) s ≡ Some (content, rest)
      → IfOk r (λ v. content_of (parse (d - 1)) (parse_content (d - 1)) c content ≡ Some (tree_of v))
      → IfOk r (λ v. payload_in (parse_content d) c s ≡ Some (tree_of v, rest))
  item-ok (Ok v) lt e h = rw (e, parse_content-at d c content lt, h) refl
  item-ok (Err f) lt e h = tt

  item-none : 0 < d → content_at (category (code_of c)) s ≡ Some (content, rest)
      → content_of (parse (d - 1)) (parse_content (d - 1)) c content ≡ None → payload_in (parse_content d) c s ≡ None
  item-none lt e h = rw (e, parse_content-at d c content lt, h) refl

  pub item-err : (r : Result Value Error) → 0 < d → content_at (category (code_of c)) s ≡ Some (content, rest)
      → IfErr r (λ e. (e ≡ OutOfMemory → ⊥) → (e ≡ TooLong → ⊥) → content_of (parse (d - 1)) (parse_content (d - 1)) c content ≡ None)
      → IfErr r (λ e. (e ≡ OutOfMemory → ⊥) → (e ≡ TooLong → ⊥) → payload_in (parse_content d) c s ≡ None)
  item-err (Ok v) lt e h = tt
  item-err (Err f) lt e h = λ other short. item-none lt e (h other short)

-- A scalar that `read_fixed` found is the value of the payload.
pub not-zero : (n : ℕ) → (n ≡ 0 → ⊥) → (n == 0) ≡ false
not-zero zero some = absurd (some refl)
not-zero (suc n) some = grind (arith, common_steps)

pub item-fixed : (d : ℕ) (c : EncodingCodes) (s : List ℕ) (r : Option (Tree × List ℕ)) → 0 < d → (code_of c ≡ 0 → ⊥)
    → value_in_bytes (parse (d - 1)) (parse_content (d - 1)) (code_of c ∷ s) ≡ r → payload_in (parse_content d) c s ≡ r
unfolding parse parse_content
item-fixed zero c s r lt some e = absurd (omega arith)
item-fixed (suc d) c s r lt some e =
    let same : suc d - 1 ≡ d = omega arith in
    let as_value : value_in_bytes (parse (suc d - 1)) (parse_content (suc d - 1)) (code_of c ∷ s) ≡ payload_in (parse_content (suc d)) c s =
    rw (same, not-zero (code_of c) some, named (code_of c) c some refl) refl in
    sym as_value ∙ e

-- A scalar of fixed width that was found is the next array element.
pub item-found : (d : ℕ) (c : EncodingCodes) (s : List ℕ) (r : Option (Tree × List ℕ)) → 0 < d → (code_of c ≡ 0 → ⊥)
    → ((f : ValueReader) (h : ContentReader) → value_in_bytes f h (code_of c ∷ s) ≡ r) → payload_in (parse_content d) c s ≡ r
item-found d c s r lt some found = item-fixed d c s r lt some (found (parse (d - 1)) (parse_content (d - 1)))

-- The payload after the byte of a primitive code.
module _ (f : ValueReader) (h : ContentReader) (b : ℕ) (c : EncodingCodes) (s : List ℕ) where
  after-byte : b ≡ code_of c → IsTrue (is_primitive c) → value_in_bytes f h (b ∷ s) ≡ payload_in (content_of f h) c s
  after-byte is ok = rw (is, primitive-nonzero c ok, primitive-found c ok) refl

  pub byte-ok : (r : Result Value Error) (rest : List ℕ) → b ≡ code_of c → IsTrue (is_primitive c)
      → IfOk r (λ v. payload_in (content_of f h) c s ≡ Some (tree_of v, rest)) → IfOk r (λ v. value_in_bytes f h (b ∷ s) ≡ Some (tree_of v, rest))
  byte-ok (Ok v) rest is ok e = after-byte is ok ∙ e
  byte-ok (Err g) rest is ok e = tt

  pub byte-err : (r : Result Value Error) → b ≡ code_of c → IsTrue (is_primitive c)
      → IfErr r (λ e. (e ≡ OutOfMemory → ⊥) → (e ≡ TooLong → ⊥) → payload_in (content_of f h) c s ≡ None)
      → IfErr r (λ e. (e ≡ OutOfMemory → ⊥) → (e ≡ TooLong → ⊥) → value_in_bytes f h (b ∷ s) ≡ None)
  byte-err (Ok v) is ok e = tt
  byte-err (Err g) is ok e = λ other short. after-byte is ok ∙ e other short

pub trees-push : (vs : List Value) (v : Value) → map tree_of (vs ++ v ∷ []) ≡ map tree_of vs ++ tree_of v ∷ []
trees-push [] v = refl
trees-push (x ∷ vs) v = ap (λ r. tree_of x ∷ r) (trees-push vs v)

module _ (f : ValueReader) where
  one-more : (m : ℕ) (s rest : List ℕ) (t : Tree) (done : List Tree) → f s ≡ Some (t, rest) → gather f (suc m) s done ≡ gather f m rest (done ++ t ∷ [])
  one-more m s rest t done e = rw e refl

  none-more : (m : ℕ) (s : List ℕ) (done : List Tree) → f s ≡ None → gather f (suc m) s done ≡ None
  none-more m s done e = rw e refl

  pub gather-and_then : (n i : ℕ) (s rest : List ℕ) (t : Tree) (done : List Tree) → i < n → f s ≡ Some (t, rest) → gather f (n - (i + 1)) rest (done ++ t ∷ []) ≡ gather f (n - i) s done
  gather-and_then n i s rest t done lt e =
      let same : n - i ≡ suc (n - (i + 1)) = omega arith in
      sym (ap (λ m. gather f m s done) same ∙ one-more (n - (i + 1)) s rest t done e)

  gather-none : (n i : ℕ) (s : List ℕ) (done : List Tree) → i < n → f s ≡ None → gather f (n - i) s done ≡ None
  gather-none n i s done lt e =
      let same : n - i ≡ suc (n - (i + 1)) = omega arith in
      ap (λ m. gather f m s done) same ∙ none-more (n - (i + 1)) s done e

  pub values-and_then : (n i : ℕ) (s rest : List ℕ) (v : Value) (vs : List Value) → i < n → f s ≡ Some (tree_of v, rest)
      → gather f (n - (i + 1)) rest (map tree_of (vs ++ v ∷ [])) ≡ gather f (n - i) s (map tree_of vs)
  values-and_then n i s rest v vs lt e = ap (gather f (n - (i + 1)) rest) (trees-push vs v) ∙ gather-and_then n i s rest (tree_of v) (map tree_of vs) lt e

  -- If an element cannot be read, there is no list.
  pub list-none : (n i : ℕ) (s body : List ℕ) (done : List Tree) → i < n → gather f (n - i) s done ≡ gather f n body [] → f s ≡ None → parse_list f (n, body) ≡ None
  list-none n i s body done lt same e =
      let no : gather f n body [] ≡ None = sym same ∙ gather-none n i s done lt e in
      rw no refl

  -- If an element cannot be read, there are no elements of an array.
  pub items-none : (n m i : ℕ) (s body : List ℕ) (done : List Tree) → i < m → gather f (m - i) s done ≡ gather f n body [] → f s ≡ None → and_then (gather f n body []) all ≡ None
  items-none n m i s body done lt same e =
      let no : gather f n body [] ≡ None = sym same ∙ gather-none m i s done lt e in
      rw no refl

  entry-more : (m : ℕ) (s mid rest : List ℕ) (k v : Tree) (done : Pairs) → f s ≡ Some (k, mid) → f mid ≡ Some (v, rest) → insert f (suc m) s done ≡ insert f m rest (insert_tree done k v)
  entry-more m s mid rest k v done ek ev = rw (ek, ev) refl

  key-none : (m : ℕ) (s : List ℕ) (done : Pairs) → f s ≡ None → insert f (suc m) s done ≡ None
  key-none m s done e = rw e refl

  value-none : (m : ℕ) (s mid : List ℕ) (k : Tree) (done : Pairs) → f s ≡ Some (k, mid) → f mid ≡ None → insert f (suc m) s done ≡ None
  value-none m s mid k done ek ev = rw (ek, ev) refl

  pub insert-and_then : (n i : ℕ) (s mid rest : List ℕ) (k v : Tree) (done : Pairs) → i < n → f s ≡ Some (k, mid) → f mid ≡ Some (v, rest)
      → insert f (n - (i + 1)) rest (insert_tree done k v) ≡ insert f (n - i) s done
  insert-and_then n i s mid rest k v done lt ek ev =
      let same : n - i ≡ suc (n - (i + 1)) = omega arith in
      sym (ap (λ m. insert f m s done) same ∙ entry-more (n - (i + 1)) s mid rest k v done ek ev)

  pub insert-no_key : (n i : ℕ) (s : List ℕ) (done : Pairs) → i < n → f s ≡ None → insert f (n - i) s done ≡ None
  insert-no_key n i s done lt e =
      let same : n - i ≡ suc (n - (i + 1)) = omega arith in
      ap (λ m. insert f m s done) same ∙ key-none (n - (i + 1)) s done e

  pub insert-no_value : (n i : ℕ) (s mid : List ℕ) (k : Tree) (done : Pairs) → i < n → f s ≡ Some (k, mid) → f mid ≡ None → insert f (n - i) s done ≡ None
  insert-no_value n i s mid k done lt ek ev =
      let same : n - i ≡ suc (n - (i + 1)) = omega arith in
      ap (λ m. insert f m s done) same ∙ value-none (n - (i + 1)) s mid k done ek ev

  -- If the entries cannot be read, there is no map.
  pub map-none : (n : ℕ) (body : List ℕ) → insert f (n / 2) body no_pairs ≡ None → parse_map f (n, body) ≡ None
  map-none n body e = by_parity (n % 2 == 0)
    where
      by_parity : (b : Bool) → (if b then and_then (and_then (insert f (n / 2) body no_pairs) all) (λ ps. Some (tree.map ps)) else None) ≡ None
      by_parity true = rw e refl
      by_parity false = refl

-- An array, given what its elements are or that they are none.
module _ (h : ContentReader) (c : ℕ) (code : EncodingCodes) (n : ℕ) (body rest : List ℕ) where
  array-of : primitive_of c ≡ Some code → body ≡ c ∷ rest
      → parse_array h (n, body) ≡ and_then (and_then (gather (payload_in h code) n rest []) all) (λ ts. Some (tree.array (trees_of ts)))
  array-of ok is = by_count n
    where
      by_count : (m : ℕ) → parse_array h (m, body) ≡ and_then (and_then (gather (payload_in h code) m rest []) all) (λ ts. Some (tree.array (trees_of ts)))
      by_count zero = rw (is, ok) refl
      by_count (suc m) = rw (is, ok) refl

  pub array-found : (ts : List Tree) → primitive_of c ≡ Some code → body ≡ c ∷ rest → and_then (gather (payload_in h code) n rest []) all ≡ Some ts
      → parse_array h (n, body) ≡ Some (tree.array (trees_of ts))
  array-found ts ok is found = array-of ok is ∙ ap (λ o. and_then o (λ us. Some (tree.array (trees_of us)))) found

  pub array-none : primitive_of c ≡ Some code → body ≡ c ∷ rest → and_then (gather (payload_in h code) n rest []) all ≡ None → parse_array h (n, body) ≡ None
  array-none ok is none = array-of ok is ∙ ap (λ o. and_then o (λ us. Some (tree.array (trees_of us)))) none
