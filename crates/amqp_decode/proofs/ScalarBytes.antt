-- The encoding of a scalar encodes it.
use Rattle.std.proofs.Common.{◌≡◌, ℕ, suc, ℤ, ◌<◌, ◌≤◌, ◌^◌, true, false, IsTrue, List, [], ◌∷◌, ◌++◌, length, slice_index, Some, refl, sym, ap, ◌∙◌, subst, arith, ◌==◌, nat_le, nat_lt}
use Rattle.std.proofs.lemmas.Bool.Decides.{nat_tests}
use Rattle.std.proofs.lemmas.Nat.{from_be_bytes-to_be_bytes_2, from_be_bytes-to_be_bytes_4, from_be_bytes-to_be_bytes_8}
use Rattle.std.proofs.lemmas.Str.{is_utf8-from_IsUtf8}
use Rattle.std.proofs.Common.{◌⊎◌, inl, inr, pos, negsuc}
use Rattle.std.proofs.Math.Utf8 as utf8
use Rattle.std.proofs.Math.Facts.{Fits-of_z, Fits-lt-pow, to_z-of_z}
use Rattle.std.specs.Int.{Width, w8, w16, w32, w64, to_be_bytes, from_be_bytes, cast_signed, cast_unsigned}
use Rattle.std.specs.Prelude.{FitsSigned}
use Rattle.std.specs.Char.{IsScalar}
use Rattle.amqp_data.specs.FormatCode.{code_of}
use Rattle.amqp_data.specs.declared.format_code.EncodingCodes.{EncodingCodes}
use Rattle.amqp_data.specs.declared.format_code.EncodingCodes.TheVariants as code
use Rattle.amqp_frame.specs.Code.{category}
use Rattle.amqp_frame.specs.declared.code.Category.TheVariants.{Fixed, OneByteSize}
use Rattle.amqp_ser.specs.Limits.{is_short, fits}
use Rattle.amqp_ser.specs.Ranged.{IsRangedScalar, IsRangedDescriptor}
use Rattle.amqp_ser.specs.Scalars.{signed_bytes, is_small, scalar_code, scalar_payload, scalar_form}
use Rattle.amqp_ser.specs.Tree as tree
use Rattle.amqp_ser.specs.Tree.{Descriptor, Scalar, null, bool, ubyte, ushort, uint, ulong, byte, short, int, long, float, double, decimal32, decimal64, decimal128, char, timestamp, uuid, binary, string, symbol}
use Rattle.amqp_ser.specs.Writable.{scalar_fits, descriptor_fits}
use Rattle.amqp_ser.specs.Encoding.{descriptor_form}
use Rattle.amqp_decode.specs.Codes.{is_primitive, shape_of_code}
use Rattle.amqp_decode.specs.Scalars.{scalar_from, single, exact, character, is_scalar_value, scalar_in}
use Rattle.amqp_decode.specs.Encodes.{IsNumber, IsPayload, IsDescriptor, Encodes, EncodesContent}
use Rattle.amqp_decode.specs.declared.payload.PayloadShape.TheVariants as shape
use Rattle.amqp_decode.proofs.Means.{pick, is_number}

-- The code of a scalar in an array.
abbrev pub widest : Scalar → EncodingCodes
widest null = code.Null
widest (bool b) = code.Boolean
widest (ubyte n) = code.Ubyte
widest (ushort n) = code.Ushort
widest (uint n) = code.Uint
widest (ulong n) = code.Ulong
widest (byte z) = code.Byte
widest (short z) = code.Short
widest (int z) = code.Int
widest (long z) = code.Long
widest (float n) = code.Float
widest (double n) = code.Double
widest (decimal32 bs) = code.Decimal32
widest (decimal64 bs) = code.Decimal64
widest (decimal128 bs) = code.Decimal128
widest (char c) = code.Char
widest (timestamp z) = code.Timestamp
widest (uuid bs) = code.Uuid
widest (binary bs) = code.Vbin32
widest (string bs) = code.Str32
widest (symbol bs) = code.Sym32

pub four-number : (n : ℕ) → n < 4294967296 → IsNumber (to_be_bytes w32 n) n
four-number n lt = subst (IsNumber (to_be_bytes w32 n)) (from_be_bytes-to_be_bytes_4 n (omega arith)) (is_number (to_be_bytes w32 n) refl)

one-byte : (n : ℕ) → n < 256 → single (to_be_bytes w8 n) ≡ Some n
one-byte n lt =
    let same : slice_index (to_be_bytes w8 n) 0 ≡ n = omega arith in
    ap Some same

-- A signed number in one, two, four and eight bytes.
module _ (z : ℤ) where
  back : (w : Width) (n : ℕ) → FitsSigned w z → n ≡ cast_unsigned w z → cast_signed w n ≡ z
  back w n f e = ap (cast_signed w) e ∙ to_z-of_z {w = w} {z = z} f

  signed-one : FitsSigned w8 z → scalar_from (λ b. byte (cast_signed w8 b)) (single (signed_bytes w8 z)) ≡ Some (byte z)
  signed-one f =
      ap (scalar_from (λ b. byte (cast_signed w8 b))) (one-byte (cast_unsigned w8 z) (Fits-lt-pow (Fits-of_z {w = w8} {z = z} f)))
      ∙ ap (λ y. Some (byte y)) (back w8 (cast_unsigned w8 z) f refl)

  signed-two : FitsSigned w16 z → cast_signed w16 (from_be_bytes w16 (signed_bytes w16 z)) ≡ z
  signed-two f = back w16 _ f (from_be_bytes-to_be_bytes_2 (cast_unsigned w16 z) (Fits-lt-pow (Fits-of_z {w = w16} {z = z} f)))

  signed-four : FitsSigned w32 z → cast_signed w32 (from_be_bytes w32 (signed_bytes w32 z)) ≡ z
  signed-four f = back w32 _ f (from_be_bytes-to_be_bytes_4 (cast_unsigned w32 z) (Fits-lt-pow (Fits-of_z {w = w32} {z = z} f)))

  signed-eight : FitsSigned w64 z → cast_signed w64 (from_be_bytes w64 (signed_bytes w64 z)) ≡ z
  signed-eight f = back w64 _ f (from_be_bytes-to_be_bytes_8 (cast_unsigned w64 z) (Fits-lt-pow (Fits-of_z {w = w64} {z = z} f)))

scalar-number : (c : ℕ) → IsScalar c → (c < 2 ^ 32) × (is_scalar_value c ≡ true)
scalar-number c is = (utf8.scalar_fits c is, by_range (utf8.scalar_cases c is))
  where
    by_range : (c < 55296) ⊎ ((57344 ≤ c) × (c < 1114112)) → is_scalar_value c ≡ true
    by_range (inl low) =
        let test : nat_lt c 0xD800 ≡ true = grind (arith, nat_tests) in
        rw test refl
    by_range (inr high) =
        let from = high.0 in
        let to = high.1 in
        let past : nat_lt c 0xD800 ≡ false = grind (arith, nat_tests) in
        let some : nat_le 0xE000 c ≡ true = grind (arith, nat_tests) in
        let last : nat_le c 0x10FFFF ≡ true = grind (arith, nat_tests) in
        rw (past, some, last) refl

-- The content of the payload of this code encodes the scalar.
abbrev pub HeldBy : EncodingCodes → List ℕ → Scalar → Type 0
HeldBy c p s = (content : List ℕ) × IsPayload (category (code_of c)) p content × (shape_of_code c ≡ shape.Scalar) × (scalar_in c content ≡ Some s)

fixed : (c : EncodingCodes) (p : List ℕ) (s : Scalar) → category (code_of c) ≡ Fixed (length p) → shape_of_code c ≡ shape.Scalar → scalar_in c p ≡ Some s → HeldBy c p s
fixed c p s is shaped found = (p, subst (λ k. IsPayload k p p) (sym is) (IsPayload.of_width p), shaped, found)

exactly : (n : ℕ) (bs : List ℕ) → length bs ≡ n → exact n bs ≡ Some bs
exactly n bs e =
    let test : (length bs == n) ≡ true = grind (arith, nat_tests) in
    rw test refl

long-number : (bs : List ℕ) → fits (length bs) ≡ true → IsNumber (to_be_bytes w32 (length bs)) (length bs)
long-number bs ok = four-number (length bs) (grind (arith, nat_tests))

pub scalar-parse_content : (s : Scalar) → IsRangedScalar s → scalar_fits s ≡ true → HeldBy (widest s) (scalar_payload s) s
unfolding category scalar_in
scalar-parse_content null r ok = fixed code.Null [] null refl refl refl
scalar-parse_content (bool true) r ok = fixed code.Boolean (1 ∷ []) (bool true) refl refl refl
scalar-parse_content (bool false) r ok = fixed code.Boolean (0 ∷ []) (bool false) refl refl refl
scalar-parse_content (ubyte n) r ok = fixed code.Ubyte _ (ubyte n) refl refl (ap (scalar_from ubyte) (one-byte n r))
scalar-parse_content (ushort n) r ok = fixed code.Ushort _ (ushort n) refl refl (ap (λ m. Some (ushort m)) (from_be_bytes-to_be_bytes_2 n r))
scalar-parse_content (uint n) r ok = fixed code.Uint _ (uint n) refl refl (ap (λ m. Some (uint m)) (from_be_bytes-to_be_bytes_4 n r))
scalar-parse_content (ulong n) r ok = fixed code.Ulong _ (ulong n) refl refl (ap (λ m. Some (ulong m)) (from_be_bytes-to_be_bytes_8 n r))
scalar-parse_content (byte z) r ok = fixed code.Byte _ (byte z) refl refl (signed-one z r)
scalar-parse_content (short z) r ok = fixed code.Short _ (short z) refl refl (ap (λ y. Some (short y)) (signed-two z r))
scalar-parse_content (int z) r ok = fixed code.Int _ (int z) refl refl (ap (λ y. Some (int y)) (signed-four z r))
scalar-parse_content (long z) r ok = fixed code.Long _ (long z) refl refl (ap (λ y. Some (long y)) (signed-eight z r))
scalar-parse_content (float n) r ok = fixed code.Float _ (float n) refl refl (ap (λ m. Some (float m)) (from_be_bytes-to_be_bytes_4 n r))
scalar-parse_content (double n) r ok = fixed code.Double _ (double n) refl refl (ap (λ m. Some (double m)) (from_be_bytes-to_be_bytes_8 n r))
scalar-parse_content (decimal32 bs) r ok = fixed code.Decimal32 bs _ (ap Fixed (sym r.0)) refl (ap (scalar_from decimal32) (exactly 4 bs r.0))
scalar-parse_content (decimal64 bs) r ok = fixed code.Decimal64 bs _ (ap Fixed (sym r.0)) refl (ap (scalar_from decimal64) (exactly 8 bs r.0))
scalar-parse_content (decimal128 bs) r ok = fixed code.Decimal128 bs _ (ap Fixed (sym r.0)) refl (ap (scalar_from decimal128) (exactly 16 bs r.0))
scalar-parse_content (char c) r ok =
    let value = scalar-number c r in
    fixed code.Char _ (char c) refl refl (ap character (from_be_bytes-to_be_bytes_4 c value.0) ∙ rw value.1 refl)
scalar-parse_content (timestamp z) r ok = fixed code.Timestamp _ (timestamp z) refl refl (ap (λ y. Some (timestamp y)) (signed-eight z r))
scalar-parse_content (uuid bs) r ok = fixed code.Uuid bs _ (ap Fixed (sym r.0)) refl (ap (scalar_from uuid) (exactly 16 bs r.0))
scalar-parse_content (binary bs) r ok = (bs, IsPayload.of_four_bytes (to_be_bytes w32 (length bs)) bs (long-number bs ok), refl, refl)
scalar-parse_content (string bs) r ok = (bs, IsPayload.of_four_bytes (to_be_bytes w32 (length bs)) bs (long-number bs ok), refl, rw (is_utf8-from_IsUtf8 bs r) refl)
scalar-parse_content (symbol bs) r ok = (bs, IsPayload.of_four_bytes (to_be_bytes w32 (length bs)) bs (long-number bs ok), refl, rw (is_utf8-from_IsUtf8 bs r) refl)

-- A code, a payload and its content encode the scalar.
pub as-encoded : (d : ℕ) (c : EncodingCodes) (p : List ℕ) (s : Scalar) → IsTrue (is_primitive c) → HeldBy c p s → Encodes (suc d) (code_of c ∷ p) (tree.scalar s)
as-encoded d c p s ok h = Encodes.primitive (suc d) c p h.0 (tree.scalar s) ok h.1 (EncodesContent.a_scalar d c h.0 s h.2 h.3)

pub widest-code : (s : Scalar) → code_of (widest s) ≡ scalar_code s
widest-code null = refl
widest-code (bool b) = refl
widest-code (ubyte n) = refl
widest-code (ushort n) = refl
widest-code (uint n) = refl
widest-code (ulong n) = refl
widest-code (byte z) = refl
widest-code (short z) = refl
widest-code (int z) = refl
widest-code (long z) = refl
widest-code (float n) = refl
widest-code (double n) = refl
widest-code (decimal32 bs) = refl
widest-code (decimal64 bs) = refl
widest-code (decimal128 bs) = refl
widest-code (char c) = refl
widest-code (timestamp z) = refl
widest-code (uuid bs) = refl
widest-code (binary bs) = refl
widest-code (string bs) = refl
widest-code (symbol bs) = refl

pub widest-primitive : (s : Scalar) → IsTrue (is_primitive (widest s))
widest-primitive null = refl
widest-primitive (bool b) = refl
widest-primitive (ubyte n) = refl
widest-primitive (ushort n) = refl
widest-primitive (uint n) = refl
widest-primitive (ulong n) = refl
widest-primitive (byte z) = refl
widest-primitive (short z) = refl
widest-primitive (int z) = refl
widest-primitive (long z) = refl
widest-primitive (float n) = refl
widest-primitive (double n) = refl
widest-primitive (decimal32 bs) = refl
widest-primitive (decimal64 bs) = refl
widest-primitive (decimal128 bs) = refl
widest-primitive (char c) = refl
widest-primitive (timestamp z) = refl
widest-primitive (uuid bs) = refl
widest-primitive (binary bs) = refl
widest-primitive (string bs) = refl
widest-primitive (symbol bs) = refl

-- The form of a scalar outside an array.
as-widest : (d : ℕ) (s : Scalar) → IsRangedScalar s → scalar_fits s ≡ true → Encodes (suc d) (scalar_code s ∷ scalar_payload s) (tree.scalar s)
as-widest d s r ok =
    subst (λ n. Encodes (suc d) (n ∷ scalar_payload s) (tree.scalar s)) (widest-code s) (as-encoded d (widest s) (scalar_payload s) s (widest-primitive s) (scalar-parse_content s r ok))

abbrev Formed : ℕ → Scalar → List ℕ → Type 0
Formed d s p = Encodes (suc d) p (tree.scalar s)

zero-from : (n : ℕ) → (n == 0) ≡ true → 0 ≡ n
zero-from n e = grind (arith, nat_tests)

small-from : (n : ℕ) → nat_lt n 256 ≡ true → n < 256
small-from n e = grind (arith, nat_tests)

small-fits : (z : ℤ) → is_small z ≡ true → FitsSigned w8 z
small-fits (pos n) e =
    let le : n ≤ 127 = grind (arith, nat_tests) in
    record { sfits = omega (arith, le) }
small-fits (negsuc n) e =
    let le : n ≤ 127 = grind (arith, nat_tests) in
    record { sfits = omega (arith, le) }

signed-small : (z : ℤ) → is_small z ≡ true → (k : ℤ → Scalar) → scalar_from (λ b. k (cast_signed w8 b)) (single (signed_bytes w8 z)) ≡ Some (k z)
signed-small z e k =
    let f = small-fits z e in
    ap (scalar_from (λ b. k (cast_signed w8 b))) (one-byte (cast_unsigned w8 z) (Fits-lt-pow (Fits-of_z {w = w8} {z = z} f)))
    ∙ ap (λ y. Some (k y)) (back z w8 (cast_unsigned w8 z) f refl)

short-sized : (bs : List ℕ) → IsPayload OneByteSize (length bs ∷ bs) bs
short-sized bs = IsPayload.of_one_byte bs

pub scalar-bytes : (d : ℕ) (s : Scalar) → IsRangedScalar s → scalar_fits s ≡ true → Encodes (suc d) (scalar_form s) (tree.scalar s)
unfolding category scalar_in
scalar-bytes d (bool true) r ok = as-encoded d code.BooleanTrue [] (bool true) refl (fixed code.BooleanTrue [] (bool true) refl refl refl)
scalar-bytes d (bool false) r ok = as-encoded d code.BooleanFalse [] (bool false) refl (fixed code.BooleanFalse [] (bool false) refl refl refl)
scalar-bytes d (uint n) r ok =
    pick (Formed d (uint n)) (n == 0) _ _
    (λ e. as-encoded d code.Uint0 [] (uint n) refl (fixed code.Uint0 [] (uint n) refl refl (ap (λ m. Some (uint m)) (zero-from n e))))
    (λ _. pick (Formed d (uint n)) (nat_lt n 256) _ _
    (λ e. as-encoded d code.SmallUint (to_be_bytes w8 n) (uint n) refl (fixed code.SmallUint (to_be_bytes w8 n) (uint n) refl refl (ap (scalar_from uint) (one-byte n (small-from n e)))))
    (λ _. as-widest d (uint n) r ok))
scalar-bytes d (ulong n) r ok =
    pick (Formed d (ulong n)) (n == 0) _ _
    (λ e. as-encoded d code.Ulong0 [] (ulong n) refl (fixed code.Ulong0 [] (ulong n) refl refl (ap (λ m. Some (ulong m)) (zero-from n e))))
    (λ _. pick (Formed d (ulong n)) (nat_lt n 256) _ _
    (λ e. as-encoded d code.SmallUlong (to_be_bytes w8 n) (ulong n) refl (fixed code.SmallUlong (to_be_bytes w8 n) (ulong n) refl refl (ap (scalar_from ulong) (one-byte n (small-from n e)))))
    (λ _. as-widest d (ulong n) r ok))
scalar-bytes d (int z) r ok =
    pick (Formed d (int z)) (is_small z) _ _
    (λ e. as-encoded d code.SmallInt (signed_bytes w8 z) (int z) refl (fixed code.SmallInt (signed_bytes w8 z) (int z) refl refl (signed-small z e int)))
    (λ _. as-widest d (int z) r ok)
scalar-bytes d (long z) r ok =
    pick (Formed d (long z)) (is_small z) _ _
    (λ e. as-encoded d code.SmallLong (signed_bytes w8 z) (long z) refl (fixed code.SmallLong (signed_bytes w8 z) (long z) refl refl (signed-small z e long)))
    (λ _. as-widest d (long z) r ok)
scalar-bytes d (binary bs) r ok =
    pick (Formed d (binary bs)) (is_short (length bs)) _ _
    (λ _. as-encoded d code.Vbin8 (length bs ∷ bs) (binary bs) refl (bs, short-sized bs, refl, refl))
    (λ _. as-widest d (binary bs) r ok)
scalar-bytes d (string bs) r ok =
    pick (Formed d (string bs)) (is_short (length bs)) _ _
    (λ _. as-encoded d code.Str8 (length bs ∷ bs) (string bs) refl (bs, short-sized bs, refl, rw (is_utf8-from_IsUtf8 bs r) refl))
    (λ _. as-widest d (string bs) r ok)
scalar-bytes d (symbol bs) r ok =
    pick (Formed d (symbol bs)) (is_short (length bs)) _ _
    (λ _. as-encoded d code.Sym8 (length bs ∷ bs) (symbol bs) refl (bs, short-sized bs, refl, rw (is_utf8-from_IsUtf8 bs r) refl))
    (λ _. as-widest d (symbol bs) r ok)
scalar-bytes d null r ok = as-widest d null r ok
scalar-bytes d (ubyte n) r ok = as-widest d (ubyte n) r ok
scalar-bytes d (ushort n) r ok = as-widest d (ushort n) r ok
scalar-bytes d (byte z) r ok = as-widest d (byte z) r ok
scalar-bytes d (short z) r ok = as-widest d (short z) r ok
scalar-bytes d (float n) r ok = as-widest d (float n) r ok
scalar-bytes d (double n) r ok = as-widest d (double n) r ok
scalar-bytes d (decimal32 bs) r ok = as-widest d (decimal32 bs) r ok
scalar-bytes d (decimal64 bs) r ok = as-widest d (decimal64 bs) r ok
scalar-bytes d (decimal128 bs) r ok = as-widest d (decimal128 bs) r ok
scalar-bytes d (char c) r ok = as-widest d (char c) r ok
scalar-bytes d (timestamp z) r ok = as-widest d (timestamp z) r ok
scalar-bytes d (uuid bs) r ok = as-widest d (uuid bs) r ok

-- The form of a descriptor.
pub descriptor-bytes : (d : Descriptor) → IsRangedDescriptor d → descriptor_fits d ≡ true → IsDescriptor (descriptor_form d) d
unfolding category scalar_in
descriptor-bytes (tree.name bs) r ok =
    pick (λ z. IsDescriptor z (tree.name bs)) (is_short (length bs)) _ _
    (λ _. IsDescriptor.encoded code.Sym8 (length bs ∷ bs) bs (tree.name bs) refl (short-sized bs) (rw (is_utf8-from_IsUtf8 bs r) refl))
    (λ _. IsDescriptor.encoded code.Sym32 (to_be_bytes w32 (length bs) ++ bs) bs (tree.name bs) refl (IsPayload.of_four_bytes (to_be_bytes w32 (length bs)) bs (long-number bs ok)) (rw (is_utf8-from_IsUtf8 bs r) refl))
descriptor-bytes (tree.code n) r ok =
    pick (λ z. IsDescriptor z (tree.code n)) (n == 0) _ _
    (λ e. IsDescriptor.encoded code.Ulong0 [] [] (tree.code n) refl (IsPayload.of_width []) (ap (λ m. Some (ulong m)) (zero-from n e)))
    (λ _. pick (λ z. IsDescriptor z (tree.code n)) (nat_lt n 256) _ _
    (λ e. IsDescriptor.encoded code.SmallUlong (to_be_bytes w8 n) (to_be_bytes w8 n) (tree.code n) refl (IsPayload.of_width (to_be_bytes w8 n)) (ap (scalar_from ulong) (one-byte n (small-from n e))))
    (λ _. IsDescriptor.encoded code.Ulong (to_be_bytes w64 n) (to_be_bytes w64 n) (tree.code n) refl (IsPayload.of_width (to_be_bytes w64 n)) (ap (λ m. Some (ulong m)) (from_be_bytes-to_be_bytes_8 n r))))
