-- The counting functions at each step of the reader.
use Rattle.std.proofs.Common.{◌≡◌, ℕ, zero, suc, ◌+◌, ◌-◌, ◌/◌, ◌%◌, ◌*◌, ◌<◌, Bool, true, false, IsTrue, List, [], ◌∷◌, Option, Some, None, Result, Ok, Err, if◌then◌else◌, ◌==◌, refl, sym, ap, ◌∙◌, subst, arith}
use Rattle.std.specs.Prelude.{IfErr}
use Rattle.amqp_data.specs.FormatCode.{code_of}
use Rattle.amqp_data.specs.declared.error.Error.{Error}
use Rattle.amqp_data.specs.declared.error.Error.TheVariants.{OutOfMemory, TooLong}
use Rattle.amqp_data.specs.declared.format_code.EncodingCodes.{EncodingCodes}
use Rattle.amqp_frame.specs.Code.{category}
use Rattle.amqp_ser.specs.Tree.{Descriptor, Tree}
use Rattle.amqp_value.proofs.SameLemmas.{numbers}
use Rattle.amqp_decode.specs.Codes.{is_primitive, primitive_of, shape_of_code}
use Rattle.amqp_decode.specs.Scalars.{and_then}
use Rattle.amqp_decode.specs.Parsed.{ValueReader, ContentReader, content_at, counted_in, descriptor_at, parse_described, with_rest, payload_in, content_in, content_of, value_in_bytes, parse_list, parse_map, parse_array, parse, parse_content}
use Rattle.amqp_decode.specs.WithoutBytes.{has_no_payload, Counter, ContentCounter, if_read, sum_of, in_payload, own_items, in_items, in_array, in_shape, in_content, counted_in_value, elements_without_bytes, content_without_bytes, value_around, content_around, Leaves, IsExceeded, IsWithin, Spends}
use Rattle.amqp_decode.specs.declared.payload.PayloadShape.{PayloadShape}
use Rattle.amqp_decode.specs.declared.payload.PayloadShape.TheVariants as shape
use Rattle.amqp_decode.proofs.CodeLemmas.{named, primitive-found, primitive-nonzero}
use Rattle.amqp_decode.proofs.Steps.{not-zero}

-- The number at a depth that is not 0.
pub count-at : (d : ℕ) (s : List ℕ) → 0 < d → elements_without_bytes d s ≡ value_around (d - 1) s
unfolding elements_without_bytes content_without_bytes
count-at zero s lt = absurd (omega arith)
count-at (suc d) s lt =
    let e : suc d - 1 ≡ d = omega arith in
    rw e refl

pub content-at : (d : ℕ) (c : EncodingCodes) (s : List ℕ) → 0 < d → content_without_bytes d c s ≡ content_around (d - 1) c s
unfolding elements_without_bytes content_without_bytes
content-at zero c s lt = absurd (omega arith)
content-at (suc d) c s lt =
    let e : suc d - 1 ≡ d = omega arith in
    rw e refl

-- A value that can be read without reading any value inside it has no such elements.
abbrev none-reader : ValueReader
none-reader s = None

abbrev none-content : ContentReader
none-content code s = None

module _ (c : Counter) (f : ValueReader) (k : ContentCounter) (h : ContentReader) where
  no-list : (o : Option (ℕ × List ℕ)) (t : Tree) → and_then o (parse_list none-reader) ≡ Some t → if_read o (λ p. sum_of c f p.0 p.1) ≡ 0
  no-list None t e = refl
  no-list (Some (zero, s)) t e = refl
  no-list (Some (suc n, s)) t e = absurd cc

  no-entries : (n : ℕ) (s : List ℕ) (t : Tree) → parse_map none-reader (n, s) ≡ Some t → n ≡ 0
  no-entries n s t e = by_test (n % 2 == 0) refl (n / 2) refl
    where
      by_test : (b : Bool) → (n % 2 == 0) ≡ b → (m : ℕ) → n / 2 ≡ m → n ≡ 0
      by_test false is m half =
          let no : parse_map none-reader (n, s) ≡ None = rw is refl in
          absurd cc
      by_test true is zero half =
          let even : n % 2 ≡ 0 = numbers (n % 2) 0 is in
          omega (arith, even, half)
      by_test true is (suc m) half =
          let no : parse_map none-reader (n, s) ≡ None = rw (is, half) refl in
          absurd cc

  no-map : (o : Option (ℕ × List ℕ)) (t : Tree) → and_then o (parse_map none-reader) ≡ Some t → if_read o (λ p. sum_of c f p.0 p.1) ≡ 0
  no-map None t e = refl
  no-map (Some (n, s)) t e = ap (λ m. sum_of c f m s) (no-entries n s t e)

  own-zero : (code : EncodingCodes) → own_items code 0 ≡ 0
  own-zero code = by_test (has_no_payload code)
    where
      by_test : (b : Bool) → ◌≡◌ {A = ℕ} (if b then 0 else 0) 0
      by_test true = refl
      by_test false = refl

  no-payload : (o : Option (List ℕ × List ℕ)) (code : EncodingCodes) → and_then o (λ p. and_then (none-content code p.0) (with_rest p.1)) ≡ None
  no-payload None code = refl
  no-payload (Some p) code = refl

  no-array : (o : Option (ℕ × List ℕ)) (t : Tree) → and_then o (parse_array none-content) ≡ Some t → if_read o (in_array k h) ≡ 0
  no-array None t e = refl
  no-array (Some (n, [])) t e = refl
  no-array (Some (zero, b ∷ s)) t e = by_code (primitive_of b)
    where
      by_code : (o : Option EncodingCodes) → if_read o (λ code. in_items k h code 0 s) ≡ 0
      by_code None = refl
      by_code (Some code) = rw (own-zero code) refl
  no-array (Some (suc n, b ∷ s)) t e = by_code (primitive_of b) refl
    where
      by_code : (o : Option EncodingCodes) → primitive_of b ≡ o → if_read o (λ code. in_items k h code (suc n) s) ≡ 0
      by_code None is = refl
      by_code (Some code) is =
          let no : parse_array none-content (suc n, b ∷ s) ≡ None = rw (is, no-payload (content_at (category (code_of code)) s) code) refl in
          absurd cc

  no-shape : (p : PayloadShape) (code : EncodingCodes) (s : List ℕ) (t : Tree) → content_in none-reader none-content p code s ≡ Some t → in_shape c f k h p s ≡ 0
  no-shape shape.Described code s t e = refl
  no-shape shape.Scalar code s t e = refl
  no-shape (shape.List count) code s t e = no-list (counted_in count s) t e
  no-shape (shape.Map count) code s t e = no-map (counted_in count s) t e
  no-shape (shape.Array count) code s t e = no-array (counted_in count s) t e

  no-content : (code : EncodingCodes) (o : Option (List ℕ × List ℕ)) (r : Tree × List ℕ)
      → and_then o (λ p. and_then (content_of none-reader none-content code p.0) (with_rest p.1)) ≡ Some r → if_read o (λ p. in_content c f k h code p.0) ≡ 0
  no-content code None r e = refl
  no-content code (Some p) r e = by_tree (content_of none-reader none-content code p.0) refl
    where
      by_tree : (o : Option Tree) → content_of none-reader none-content code p.0 ≡ o → in_content c f k h code p.0 ≡ 0
      by_tree (Some t) is = no-shape (shape_of_code code) code p.0 t is
      by_tree None is =
          let no : and_then (content_of none-reader none-content code p.0) (with_rest p.1) ≡ None = rw is refl in
          absurd cc

  pub no-encoded : (s : List ℕ) (r : Tree × List ℕ) → value_in_bytes none-reader none-content s ≡ Some r → counted_in_value c f k h s ≡ 0
  no-encoded [] r e = refl
  no-encoded (b ∷ s) r e = by_test (b == 0) e
    where
      by_descriptor : (o : Option (Descriptor × List ℕ)) → and_then o (parse_described none-reader) ≡ Some r → if_read o (λ d. c d.1) ≡ 0
      by_descriptor None e = refl
      by_descriptor (Some d) e = absurd cc

      by_code : (o : Option EncodingCodes) → and_then o (λ code. payload_in (content_of none-reader none-content) code s) ≡ Some r
          → if_read o (λ code. in_payload (in_content c f k h) code s) ≡ 0
      by_code None e = refl
      by_code (Some code) e = no-content code (content_at (category (code_of code)) s) r e

      by_test : (z : Bool)
          → (if z then and_then (descriptor_at s) (parse_described none-reader) else and_then (primitive_of b) (λ code. payload_in (content_of none-reader none-content) code s)) ≡ Some r
          → (if z then if_read (descriptor_at s) (λ d. c d.1) else if_read (primitive_of b) (λ code. in_payload (in_content c f k h) code s)) ≡ 0
      by_test true e = by_descriptor (descriptor_at s) e
      by_test false e = by_code (primitive_of b) e

module _ (d : ℕ) where
  pub found-count : (s : List ℕ) (r : Tree × List ℕ) → 0 < d → ((f : ValueReader) (h : ContentReader) → value_in_bytes f h s ≡ Some r) → elements_without_bytes d s ≡ 0
  found-count s r lt found =
      count-at d s lt
      ∙ no-encoded (elements_without_bytes (d - 1)) (parse (d - 1)) (content_without_bytes (d - 1)) (parse_content (d - 1)) s r (found none-reader none-content)

  -- The payload of an array element is counted as the value with its code.
  payload-count : (c : EncodingCodes) (s : List ℕ) → 0 < d → (code_of c ≡ 0 → ⊥) → value_around (d - 1) (code_of c ∷ s) ≡ in_payload (content_without_bytes d) c s
  payload-count c s lt some =
      rw (not-zero (code_of c) some, named (code_of c) c some refl) (by_content (content_at (category (code_of c)) s))
    where
      by_content : (o : Option (List ℕ × List ℕ)) → if_read o (λ p. content_around (d - 1) c p.0) ≡ if_read o (λ p. content_without_bytes d c p.0)
      by_content None = refl
      by_content (Some p) = sym (content-at d c p.0 lt)

  pub item-count : (c : EncodingCodes) (s : List ℕ) (r : Tree × List ℕ) → 0 < d → (code_of c ≡ 0 → ⊥)
      → ((f : ValueReader) (h : ContentReader) → value_in_bytes f h (code_of c ∷ s) ≡ Some r) → in_payload (content_without_bytes d) c s ≡ 0
  item-count c s r lt some found =
      sym (payload-count c s lt some)
      ∙ no-encoded (elements_without_bytes (d - 1)) (parse (d - 1)) (content_without_bytes (d - 1)) (parse_content (d - 1)) (code_of c ∷ s) r (found none-reader none-content)

  -- The content of the payload of an array element.
  pub content-count : (c : EncodingCodes) (s content rest : List ℕ) → 0 < d → content_at (category (code_of c)) s ≡ Some (content, rest)
      → content_around (d - 1) c content ≡ in_payload (content_without_bytes d) c s
  content-count c s content rest lt is = rw is (sym (content-at d c content lt))

  -- The payload after the byte of a primitive code.
  pub byte-count : (b : ℕ) (c : EncodingCodes) (s : List ℕ) → b ≡ code_of c → IsTrue (is_primitive c) → in_payload (content_around d) c s ≡ value_around d (b ∷ s)
  byte-count b c s is ok = rw (is, primitive-nonzero c ok, primitive-found c ok) refl

-- The values one after another: the first, and those after it.
module _ (c : Counter) (f : ValueReader) where
  pub sum-step : (n i : ℕ) (s rest : List ℕ) (t : Tree) → i < n → f s ≡ Some (t, rest) → sum_of c f (n - i) s ≡ c s + sum_of c f (n - (i + 1)) rest
  sum-step n i s rest t lt e =
      let same : n - i ≡ suc (n - (i + 1)) = omega arith in
      let one : sum_of c f (suc (n - (i + 1))) s ≡ c s + sum_of c f (n - (i + 1)) rest = rw e refl in
      ap (λ m. sum_of c f m s) same ∙ one

  pub sum-more : (n i : ℕ) (s : List ℕ) → i < n → (r : ℕ) × (sum_of c f (n - i) s ≡ c s + r)
  sum-more n i s lt =
      let same : n - i ≡ suc (n - (i + 1)) = omega arith in
      (if_read (f s) (λ p. sum_of c f (n - (i + 1)) p.1), ap (λ m. sum_of c f m s) same)

  -- A value without such elements leaves those after it.
  pub sum-none : (n i : ℕ) (s rest : List ℕ) (t : Tree) (total : ℕ) → i < n → f s ≡ Some (t, rest) → c s ≡ 0 → sum_of c f (n - i) s ≡ total
      → sum_of c f (n - (i + 1)) rest ≡ total
  sum-none n i s rest t total lt e none same = omega (arith, sum-step n i s rest t lt e, none, same)

  pub pair-step : (n i : ℕ) (s mid rest : List ℕ) (t u : Tree) → i < n → f s ≡ Some (t, mid) → f mid ≡ Some (u, rest)
      → sum_of c f (2 * (n - i)) s ≡ c s + (c mid + sum_of c f (2 * (n - (i + 1))) rest)
  pair-step n i s mid rest t u lt e g =
      let same : 2 * (n - i) ≡ suc (suc (2 * (n - (i + 1)))) = omega arith in
      let both : sum_of c f (suc (suc (2 * (n - (i + 1))))) s ≡ c s + (c mid + sum_of c f (2 * (n - (i + 1))) rest) = rw (e, g) refl in
      ap (λ m. sum_of c f m s) same ∙ both

  pub key-more : (n i : ℕ) (s : List ℕ) → i < n → (r : ℕ) × (sum_of c f (2 * (n - i)) s ≡ c s + r)
  key-more n i s lt =
      let same : 2 * (n - i) ≡ suc (suc (2 * (n - (i + 1)))) = omega arith in
      (if_read (f s) (λ p. sum_of c f (suc (2 * (n - (i + 1)))) p.1), ap (λ m. sum_of c f m s) same)

  pub value-more : (n i : ℕ) (s mid : List ℕ) (t : Tree) → i < n → f s ≡ Some (t, mid) → (r : ℕ) × (sum_of c f (2 * (n - i)) s ≡ c s + (c mid + r))
  value-more n i s mid t lt e =
      let same : 2 * (n - i) ≡ suc (suc (2 * (n - (i + 1)))) = omega arith in
      let rest = if_read (f mid) (λ p. sum_of c f (2 * (n - (i + 1))) p.1) in
      let both : sum_of c f (suc (suc (2 * (n - (i + 1))))) s ≡ c s + (c mid + rest) = rw e refl in
      (rest, ap (λ m. sum_of c f m s) same ∙ both)

-- Of `total` elements that are taken from `old`, `rest` remain to be taken.
abbrev pub Remains : Option ℕ → Option ℕ → ℕ → ℕ → Type 0
Remains None None total rest = Unit {0}
Remains (Some old) (Some new) total rest = new + total ≡ old + rest
Remains None (Some new) total rest = ⊥
Remains (Some old) None total rest = ⊥

pub remains-step : (o l new : Option ℕ) (n k m r : ℕ) → m ≡ k + r → Remains o l n m → Leaves l new k → Remains o new n r
remains-step None None None n k m r e h g = tt
remains-step None None (Some c) n k m r e h g = absurd g
remains-step None (Some b) new n k m r e h g = absurd h
remains-step (Some a) None new n k m r e h g = absurd h
remains-step (Some a) (Some b) None n k m r e h g = absurd g
remains-step (Some a) (Some b) (Some c) n k m r e h g = omega (arith, e, h, g)

pub remains-exceeded : (o l : Option ℕ) (n k m r : ℕ) → m ≡ k + r → Remains o l n m → IsExceeded l k → IsExceeded o n
remains-exceeded o None n k m r e h g = absurd g
remains-exceeded None (Some b) n k m r e h g = absurd h
remains-exceeded (Some a) (Some b) n k m r e h g = omega (arith, e, h, g)

pub leaves-none : (o : Option ℕ) (n : ℕ) → n ≡ 0 → Leaves o o n
leaves-none None n e = tt
leaves-none (Some a) n e = omega (arith, e)

pub leaves-both : (o l new : Option ℕ) (n m : ℕ) → Leaves o l n → Leaves l new m → Leaves o new (n + m)
leaves-both None None None n m h g = tt
leaves-both None None (Some c) n m h g = absurd g
leaves-both None (Some b) new n m h g = absurd h
leaves-both (Some a) None new n m h g = absurd h
leaves-both (Some a) (Some b) None n m h g = absurd g
leaves-both (Some a) (Some b) (Some c) n m h g = omega (arith, h, g)

pub exceeded-items : (o l : Option ℕ) (n m total : ℕ) → total ≡ n + m → Leaves o l n → IsExceeded l m → IsExceeded o total
exceeded-items o None n m total e h g = absurd g
exceeded-items None (Some b) n m total e h g = absurd h
exceeded-items (Some a) (Some b) n m total e h g = omega (arith, e, h, g)

pub exceeded-more : (o : Option ℕ) (n m : ℕ) → IsExceeded o n → IsExceeded o (n + m)
exceeded-more None n m g = absurd g
exceeded-more (Some a) n m g = omega (arith, g)

pub spends-at : {T : Type 0} (r : Result T Error) (old new : Option ℕ) (n m : ℕ) → n ≡ m → Spends r old new n → Spends r old new m
spends-at (Ok v) old new n m e h = subst (Leaves old new) e h
spends-at (Err g) old new n m e h = λ long. subst (IsExceeded old) e (h long)

pub leaves-at : (old new : Option ℕ) (n m : ℕ) → n ≡ m → Leaves old new n → Leaves old new m
leaves-at old new n m e h = subst (Leaves old new) e h

-- The elements of an array, given its constructor.
pub array-count : (k : ContentCounter) (h : ContentReader) (c : ℕ) (code : EncodingCodes) (n : ℕ) (body rest : List ℕ) → primitive_of c ≡ Some code → body ≡ c ∷ rest
    → in_array k h (n, body) ≡ own_items code n + sum_of (in_payload k code) (payload_in h code) n rest
array-count k h c code n body rest ok is = rw (is, ok) refl

pub leaves-within : (o new : Option ℕ) (n : ℕ) → Leaves o new n → IsWithin o n
leaves-within None None n h = tt
leaves-within None (Some b) n h = absurd h
leaves-within (Some a) None n h = absurd h
leaves-within (Some a) (Some b) n h = omega (arith, h)

-- Without a limit, no error is that of a limit.
pub never-long : {T : Type 0} (P : Type 0) (r : Result T Error) → IfErr r (λ e. e ≡ TooLong → ⊥)
    → IfErr r (λ e. (e ≡ OutOfMemory → ⊥) → (e ≡ TooLong → ⊥) → P) → IfErr r (λ e. (e ≡ OutOfMemory → ⊥) → P)
never-long P (Ok v) h g = tt
never-long P (Err e) h g = λ other. g other h
