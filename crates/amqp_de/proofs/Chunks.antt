-- Arrays of numbers, whose payloads have the same length.
use Rattle.std.proofs.Common.{◌≡◌, ℕ, ℤ, zero, suc, ◌+◌, ◌-◌, ◌*◌, IsTrue, List, [], ◌∷◌, ◌++◌, length, drop, Some, refl, sym, ap, ◌∙◌, subst, append_assoc, arith}
use Rattle.std.proofs.lemmas.Grind.{common_steps}
use Rattle.std.proofs.lemmas.List.{append-nil, take-append-drop, length-drop}
use Rattle.std.specs.Int.{w16, w32, w64, from_be_bytes, cast_signed}
use Rattle.std.specs.List.{AllZip}
use Rattle.std.specs.Simd.{first_chunks}
use Rattle.amqp_data.specs.FormatCode.{code_of}
use Rattle.amqp_data.specs.declared.format_code.EncodingCodes.{EncodingCodes}
use Rattle.amqp_data.specs.declared.format_code.EncodingCodes.TheVariants as code
use Rattle.amqp_frame.specs.Code.{category}
use Rattle.amqp_frame.specs.declared.code.Category.TheVariants.{Fixed}
use Rattle.amqp_ser.specs.Tree as tree
use Rattle.amqp_ser.specs.Tree.{Tree, Scalar, scalar}
use Rattle.amqp_decode.specs.Codes.{is_primitive, shape_of_code}
use Rattle.amqp_decode.specs.Scalars.{scalar_in}
use Rattle.amqp_decode.specs.Parsed.{gather, parse, parse_content}
use Rattle.amqp_decode.specs.Prefix.{item_of}
use Rattle.amqp_decode.specs.declared.payload.PayloadShape.TheVariants as shape
use Rattle.amqp_decode.proofs.Gathers.{first_gathered}
use Rattle.amqp_decode.proofs.Levels.{parse_value}
use Rattle.amqp_decode.proofs.ScalarForms.{fixed-is}
use Rattle.amqp_decode.proofs.Whole.{nil-from_length}
use Rattle.amqp_de.specs.Encodings.{Fills, IsPayloadOf}

-- The values of the chunks so far: with values of the rest, they are values of all chunks.
abbrev pub Converts : {T : Type 0} → (List ℕ → T → Type 0) → List (List ℕ) → List (List ℕ) → List T → Type 0
Converts {T} Is rest chunks items = (ys : List T) → AllZip Is rest ys → AllZip Is chunks (items ++ ys)

module _ {T : Type 0} (Is : List ℕ → T → Type 0) (chunks : List (List ℕ)) (items : List T) where
  pub converts_none : items ≡ [] → Converts Is chunks chunks items
  converts_none e ys zip = subst (λ z. AllZip Is chunks (z ++ ys)) (sym e) zip

  pub converts_more : (b : List ℕ) (s : List (List ℕ)) (x : T) (more : List T) → more ≡ items ++ x ∷ [] → Is b x → Converts Is (b ∷ s) chunks items → Converts Is s chunks more
  converts_more b s x more e is so ys zip = subst (AllZip Is chunks) (sym (ap (λ z. z ++ ys) e ∙ append_assoc items (x ∷ []) ys)) (so (x ∷ ys) (is, zip))

  pub converted : (s : List (List ℕ)) → length s ≡ 0 → Converts Is s chunks items → AllZip Is chunks items
  converted [] e so = subst (AllZip Is chunks) (append-nil items) (so [] tt)
  converted (b ∷ s) e so = absurd (omega (arith, e))

pub ruleset converting = (converts_none, converts_more, converted)

pub chunk_values : {T : Type 0} (Is : List ℕ → T → Type 0) (width n count : ℕ) (s : List ℕ) (chunks : List (List ℕ)) (xs : List T)
    → chunks ≡ first_chunks width n s → n ≡ count → AllZip Is chunks xs → AllZip Is (first_chunks width count s) xs
chunk_values Is width n count s chunks xs e same zip = subst (λ z. AllZip Is z xs) (e ∙ ap (λ m. first_chunks width m s) same) zip

-- The payload of a code of fixed width is read as the scalar in it.
payload_of : (c : EncodingCodes) (width : ℕ) (x : Scalar) → IsTrue (is_primitive c) → shape_of_code c ≡ shape.Scalar → category (code_of c) ≡ Fixed width
    → (bs : List ℕ) → length bs ≡ width → scalar_in c bs ≡ Some x → IsPayloadOf (code_of c) bs x
payload_of c width x ok is wide bs len reads d s = parse_value d (code_of c ∷ (bs ++ s)) ∙ fixed-is c bs s x ok is (wide ∙ ap Fixed (sym len)) reads (parse d) (parse_content d)

pub ushort_payload : (bs : List ℕ) (x : ℕ) → length bs ≡ 2 → x ≡ from_be_bytes w16 bs → IsPayloadOf 96 bs (tree.ushort x)
unfolding scalar_in category
ushort_payload bs x len is = payload_of code.Ushort 2 (tree.ushort x) refl refl refl bs len (rw (len, is) refl)

pub uint_payload : (bs : List ℕ) (x : ℕ) → length bs ≡ 4 → x ≡ from_be_bytes w32 bs → IsPayloadOf 112 bs (tree.uint x)
unfolding scalar_in category
uint_payload bs x len is = payload_of code.Uint 4 (tree.uint x) refl refl refl bs len (rw (len, is) refl)

pub ulong_payload : (bs : List ℕ) (x : ℕ) → length bs ≡ 8 → x ≡ from_be_bytes w64 bs → IsPayloadOf 128 bs (tree.ulong x)
unfolding scalar_in category
ulong_payload bs x len is = payload_of code.Ulong 8 (tree.ulong x) refl refl refl bs len (rw (len, is) refl)

pub short_payload : (bs : List ℕ) (x : ℤ) → length bs ≡ 2 → x ≡ cast_signed w16 (from_be_bytes w16 bs) → IsPayloadOf 97 bs (tree.short x)
unfolding scalar_in category
short_payload bs x len is = payload_of code.Short 2 (tree.short x) refl refl refl bs len (rw (len, is) refl)

pub int_payload : (bs : List ℕ) (x : ℤ) → length bs ≡ 4 → x ≡ cast_signed w32 (from_be_bytes w32 bs) → IsPayloadOf 113 bs (tree.int x)
unfolding scalar_in category
int_payload bs x len is = payload_of code.Int 4 (tree.int x) refl refl refl bs len (rw (len, is) refl)

pub long_payload : (bs : List ℕ) (x : ℤ) → length bs ≡ 8 → x ≡ cast_signed w64 (from_be_bytes w64 bs) → IsPayloadOf 129 bs (tree.long x)
unfolding scalar_in category
long_payload bs x len is = payload_of code.Long 8 (tree.long x) refl refl refl bs len (rw (len, is) refl)

pub float_payload : (bs : List ℕ) (x : ℕ) → length bs ≡ 4 → x ≡ from_be_bytes w32 bs → IsPayloadOf 114 bs (tree.float x)
unfolding scalar_in category
float_payload bs x len is = payload_of code.Float 4 (tree.float x) refl refl refl bs len (rw (len, is) refl)

pub double_payload : (bs : List ℕ) (x : ℕ) → length bs ≡ 8 → x ≡ from_be_bytes w64 bs → IsPayloadOf 130 bs (tree.double x)
unfolding scalar_in category
double_payload bs x len is = payload_of code.Double 8 (tree.double x) refl refl refl bs len (rw (len, is) refl)

pub timestamp_payload : (bs : List ℕ) (x : ℤ) → length bs ≡ 8 → x ≡ cast_signed w64 (from_be_bytes w64 bs) → IsPayloadOf 131 bs (tree.timestamp x)
unfolding scalar_in category
timestamp_payload bs x len is = payload_of code.Timestamp 8 (tree.timestamp x) refl refl refl bs len (rw (len, is) refl)

-- The numbers that fill the content are the elements.
module _ {T : Type 0} (content : T → Scalar) (code width : ℕ) where
  pub chunks_fill : (d n : ℕ) (s : List ℕ) (xs : List T) → length s ≡ n * width → AllZip (λ bs x. IsPayloadOf code bs (content x)) (first_chunks width n s) xs
      → Fills (λ t x. t ≡ scalar (content x)) (item_of d code) n s xs
  chunks_fill d zero s [] e zip =
      let none : length s ≡ 0 = grind (arith, common_steps) in
      ([], ap (λ z. Some ([], z)) (nil-from_length s none), tt)
  chunks_fill d zero s (x ∷ xs) e zip = absurd zip
  chunks_fill d (suc n) s [] e zip = absurd zip
  chunks_fill d (suc n) s (x ∷ xs) e zip =
      let total : suc n * width ≡ width + n * width = grind (arith, common_steps) in
      let dropped : length (drop width s) ≡ length s - width = length-drop width s in
      let more : length (drop width s) ≡ n * width = omega (arith, e, total, dropped) in
      let (ts, all, others) = chunks_fill d n (drop width s) xs more zip.1 in
      let less : suc n - 1 ≡ n = omega arith in
      let first : item_of d code s ≡ Some (scalar (content x), drop width s) = ap (item_of d code) (sym (take-append-drop width s)) ∙ zip.0 d (drop width s) in
      let rest : gather (item_of d code) (suc n - 1) (drop width s) [] ≡ Some (ts, []) = ap (λ m. gather (item_of d code) m (drop width s) []) less ∙ all in (
        scalar (content x) ∷ ts,
        first_gathered (item_of d code) (suc n) s (drop width s) (scalar (content x)) ts (λ z. absurd cc) first rest,
        (refl, others),
      )
