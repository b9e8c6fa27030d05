-- Scalars with their format codes.
use Rattle.std.proofs.Common.{◌≡◌, ℕ, ℤ, true, false, IsTrue, List, [], ◌∷◌, ◌++◌, length, Some, refl, sym, subst}
use Rattle.std.specs.Int.{w8, w16, w32, w64, from_be_bytes, cast_signed}
use Rattle.std.specs.Str.{is_utf8}
use Rattle.amqp_data.specs.FormatCode.{code_of}
use Rattle.amqp_data.specs.declared.format_code.EncodingCodes.{EncodingCodes}
use Rattle.amqp_data.specs.declared.format_code.EncodingCodes.TheVariants as code
use Rattle.amqp_frame.specs.Code.{category}
use Rattle.amqp_frame.specs.declared.code.Category.TheVariants.{Fixed}
use Rattle.amqp_ser.specs.Tree.{Scalar, null, bool, ubyte, ushort, uint, ulong, byte, short, int, long, float, double, timestamp, decimal32, decimal64, decimal128, uuid, binary, string, symbol}
use Rattle.amqp_decode.specs.Codes.{is_primitive, shape_of_code}
use Rattle.amqp_decode.specs.Scalars.{exact, character, scalar_in}
use Rattle.amqp_decode.specs.Encodes.{IsPayload}
use Rattle.amqp_decode.specs.Parsed.{cut, content_at, sized_at}
use Rattle.amqp_decode.specs.Prefix.{IsScalar}
use Rattle.amqp_decode.specs.declared.payload.PayloadShape.TheVariants as shape
use Rattle.amqp_decode.proofs.CodeLemmas.{primitive-found, primitive-nonzero}
use Rattle.amqp_decode.proofs.Finds.{payload-found}

pub scalar-is : (c : EncodingCodes) (s content rest : List ℕ) (k : Scalar) → IsTrue (is_primitive c) → shape_of_code c ≡ shape.Scalar
    → content_at (category (code_of c)) s ≡ Some (content, rest) → scalar_in c content ≡ Some k → IsScalar (code_of c ∷ s) rest k
scalar-is c s content rest k ok is found reads f h = rw (primitive-nonzero c ok, primitive-found c ok, found, is, reads) refl

-- A scalar of fixed width, by its payload.
pub fixed-is : (c : EncodingCodes) (bs rest : List ℕ) (k : Scalar) → IsTrue (is_primitive c) → shape_of_code c ≡ shape.Scalar
    → category (code_of c) ≡ Fixed (length bs) → scalar_in c bs ≡ Some k → IsScalar (code_of c ∷ (bs ++ rest)) rest k
fixed-is c bs rest k ok is wide reads =
    scalar-is c (bs ++ rest) bs rest k ok is (subst (λ z. content_at z (bs ++ rest) ≡ Some (bs, rest)) (sym wide) (payload-found (IsPayload.of_width bs) rest)) reads

pub null-is : (s : List ℕ) → IsScalar (0x40 ∷ s) s null
unfolding scalar_in category
null-is s = scalar-is code.Null s [] s null refl refl (payload-found (IsPayload.of_width []) s) refl

pub true-is : (s : List ℕ) → IsScalar (0x41 ∷ s) s (bool true)
unfolding scalar_in category
true-is s = scalar-is code.BooleanTrue s [] s (bool true) refl refl (payload-found (IsPayload.of_width []) s) refl

pub false-is : (s : List ℕ) → IsScalar (0x42 ∷ s) s (bool false)
unfolding scalar_in category
false-is s = scalar-is code.BooleanFalse s [] s (bool false) refl refl (payload-found (IsPayload.of_width []) s) refl

pub zero_uint-is : (s : List ℕ) → IsScalar (0x43 ∷ s) s (uint 0)
unfolding scalar_in category
zero_uint-is s = scalar-is code.Uint0 s [] s (uint 0) refl refl (payload-found (IsPayload.of_width []) s) refl

pub zero_ulong-is : (s : List ℕ) → IsScalar (0x44 ∷ s) s (ulong 0)
unfolding scalar_in category
zero_ulong-is s = scalar-is code.Ulong0 s [] s (ulong 0) refl refl (payload-found (IsPayload.of_width []) s) refl

pub true_byte-is : (s : List ℕ) → IsScalar (0x56 ∷ 1 ∷ s) s (bool true)
unfolding scalar_in category
true_byte-is s = scalar-is code.Boolean (1 ∷ s) (1 ∷ []) s (bool true) refl refl (payload-found (IsPayload.of_width (1 ∷ [])) s) refl

pub false_byte-is : (s : List ℕ) → IsScalar (0x56 ∷ 0 ∷ s) s (bool false)
unfolding scalar_in category
false_byte-is s = scalar-is code.Boolean (0 ∷ s) (0 ∷ []) s (bool false) refl refl (payload-found (IsPayload.of_width (0 ∷ [])) s) refl

pub ubyte-is : (a : ℕ) (s : List ℕ) (n : ℕ) → n ≡ a → IsScalar (0x50 ∷ a ∷ s) s (ubyte n)
unfolding scalar_in category
ubyte-is a s n is = scalar-is code.Ubyte (a ∷ s) (a ∷ []) s (ubyte n) refl refl (payload-found (IsPayload.of_width (a ∷ [])) s) (rw is refl)

pub byte-is : (a : ℕ) (s : List ℕ) (n : ℤ) → n ≡ cast_signed w8 a → IsScalar (0x51 ∷ a ∷ s) s (byte n)
unfolding scalar_in category
byte-is a s n is = scalar-is code.Byte (a ∷ s) (a ∷ []) s (byte n) refl refl (payload-found (IsPayload.of_width (a ∷ [])) s) (rw is refl)

pub small_uint-is : (a : ℕ) (s : List ℕ) (n : ℕ) → n ≡ a → IsScalar (0x52 ∷ a ∷ s) s (uint n)
unfolding scalar_in category
small_uint-is a s n is = scalar-is code.SmallUint (a ∷ s) (a ∷ []) s (uint n) refl refl (payload-found (IsPayload.of_width (a ∷ [])) s) (rw is refl)

pub small_ulong-is : (a : ℕ) (s : List ℕ) (n : ℕ) → n ≡ a → IsScalar (0x53 ∷ a ∷ s) s (ulong n)
unfolding scalar_in category
small_ulong-is a s n is = scalar-is code.SmallUlong (a ∷ s) (a ∷ []) s (ulong n) refl refl (payload-found (IsPayload.of_width (a ∷ [])) s) (rw is refl)

pub small_int-is : (a : ℕ) (s : List ℕ) (n : ℤ) → n ≡ cast_signed w8 a → IsScalar (0x54 ∷ a ∷ s) s (int n)
unfolding scalar_in category
small_int-is a s n is = scalar-is code.SmallInt (a ∷ s) (a ∷ []) s (int n) refl refl (payload-found (IsPayload.of_width (a ∷ [])) s) (rw is refl)

pub small_long-is : (a : ℕ) (s : List ℕ) (n : ℤ) → n ≡ cast_signed w8 a → IsScalar (0x55 ∷ a ∷ s) s (long n)
unfolding scalar_in category
small_long-is a s n is = scalar-is code.SmallLong (a ∷ s) (a ∷ []) s (long n) refl refl (payload-found (IsPayload.of_width (a ∷ [])) s) (rw is refl)

pub ushort-is : (s bs rest : List ℕ) (n : ℕ) → n ≡ from_be_bytes w16 bs → cut 2 s ≡ Some (bs, rest) → exact 2 bs ≡ Some bs
    → IsScalar (0x60 ∷ s) rest (ushort n)
unfolding scalar_in category
ushort-is s bs rest n is found whole = scalar-is code.Ushort s bs rest (ushort n) refl refl found (rw (whole, is) refl)

pub short-is : (s bs rest : List ℕ) (n : ℤ) → n ≡ cast_signed w16 (from_be_bytes w16 bs) → cut 2 s ≡ Some (bs, rest) → exact 2 bs ≡ Some bs
    → IsScalar (0x61 ∷ s) rest (short n)
unfolding scalar_in category
short-is s bs rest n is found whole = scalar-is code.Short s bs rest (short n) refl refl found (rw (whole, is) refl)

pub uint-is : (s bs rest : List ℕ) (n : ℕ) → n ≡ from_be_bytes w32 bs → cut 4 s ≡ Some (bs, rest) → exact 4 bs ≡ Some bs
    → IsScalar (0x70 ∷ s) rest (uint n)
unfolding scalar_in category
uint-is s bs rest n is found whole = scalar-is code.Uint s bs rest (uint n) refl refl found (rw (whole, is) refl)

pub int-is : (s bs rest : List ℕ) (n : ℤ) → n ≡ cast_signed w32 (from_be_bytes w32 bs) → cut 4 s ≡ Some (bs, rest) → exact 4 bs ≡ Some bs
    → IsScalar (0x71 ∷ s) rest (int n)
unfolding scalar_in category
int-is s bs rest n is found whole = scalar-is code.Int s bs rest (int n) refl refl found (rw (whole, is) refl)

pub float-is : (s bs rest : List ℕ) (n : ℕ) → n ≡ from_be_bytes w32 bs → cut 4 s ≡ Some (bs, rest) → exact 4 bs ≡ Some bs
    → IsScalar (0x72 ∷ s) rest (float n)
unfolding scalar_in category
float-is s bs rest n is found whole = scalar-is code.Float s bs rest (float n) refl refl found (rw (whole, is) refl)

pub ulong-is : (s bs rest : List ℕ) (n : ℕ) → n ≡ from_be_bytes w64 bs → cut 8 s ≡ Some (bs, rest) → exact 8 bs ≡ Some bs
    → IsScalar (0x80 ∷ s) rest (ulong n)
unfolding scalar_in category
ulong-is s bs rest n is found whole = scalar-is code.Ulong s bs rest (ulong n) refl refl found (rw (whole, is) refl)

pub long-is : (s bs rest : List ℕ) (n : ℤ) → n ≡ cast_signed w64 (from_be_bytes w64 bs) → cut 8 s ≡ Some (bs, rest) → exact 8 bs ≡ Some bs
    → IsScalar (0x81 ∷ s) rest (long n)
unfolding scalar_in category
long-is s bs rest n is found whole = scalar-is code.Long s bs rest (long n) refl refl found (rw (whole, is) refl)

pub double-is : (s bs rest : List ℕ) (n : ℕ) → n ≡ from_be_bytes w64 bs → cut 8 s ≡ Some (bs, rest) → exact 8 bs ≡ Some bs
    → IsScalar (0x82 ∷ s) rest (double n)
unfolding scalar_in category
double-is s bs rest n is found whole = scalar-is code.Double s bs rest (double n) refl refl found (rw (whole, is) refl)

pub timestamp-is : (s bs rest : List ℕ) (n : ℤ) → n ≡ cast_signed w64 (from_be_bytes w64 bs) → cut 8 s ≡ Some (bs, rest) → exact 8 bs ≡ Some bs
    → IsScalar (0x83 ∷ s) rest (timestamp n)
unfolding scalar_in category
timestamp-is s bs rest n is found whole = scalar-is code.Timestamp s bs rest (timestamp n) refl refl found (rw (whole, is) refl)

pub char-is : (s bs rest : List ℕ) (n : ℕ) (k : Scalar) → n ≡ from_be_bytes w32 bs → cut 4 s ≡ Some (bs, rest) → exact 4 bs ≡ Some bs → character n ≡ Some k
    → IsScalar (0x73 ∷ s) rest k
unfolding scalar_in category
char-is s bs rest n k is found whole valid = scalar-is code.Char s bs rest k refl refl found (rw (whole, sym is) valid)

pub decimal32-is : (s bs rest : List ℕ) → cut 4 s ≡ Some (bs, rest) → exact 4 bs ≡ Some bs → IsScalar (0x74 ∷ s) rest (decimal32 bs)
unfolding scalar_in category
decimal32-is s bs rest found whole = scalar-is code.Decimal32 s bs rest (decimal32 bs) refl refl found (rw whole refl)

pub decimal64-is : (s bs rest : List ℕ) → cut 8 s ≡ Some (bs, rest) → exact 8 bs ≡ Some bs → IsScalar (0x84 ∷ s) rest (decimal64 bs)
unfolding scalar_in category
decimal64-is s bs rest found whole = scalar-is code.Decimal64 s bs rest (decimal64 bs) refl refl found (rw whole refl)

pub decimal128-is : (s bs rest : List ℕ) → cut 16 s ≡ Some (bs, rest) → exact 16 bs ≡ Some bs → IsScalar (0x94 ∷ s) rest (decimal128 bs)
unfolding scalar_in category
decimal128-is s bs rest found whole = scalar-is code.Decimal128 s bs rest (decimal128 bs) refl refl found (rw whole refl)

pub uuid-is : (s bs rest : List ℕ) → cut 16 s ≡ Some (bs, rest) → exact 16 bs ≡ Some bs → IsScalar (0x98 ∷ s) rest (uuid bs)
unfolding scalar_in category
uuid-is s bs rest found whole = scalar-is code.Uuid s bs rest (uuid bs) refl refl found (rw whole refl)

pub binary-is : (s bs rest : List ℕ) → sized_at false s ≡ Some (bs, rest) → IsScalar (0xA0 ∷ s) rest (binary bs)
unfolding scalar_in category
binary-is s bs rest found = scalar-is code.Vbin8 s bs rest (binary bs) refl refl found refl

pub long_binary-is : (s bs rest : List ℕ) → sized_at true s ≡ Some (bs, rest) → IsScalar (0xB0 ∷ s) rest (binary bs)
unfolding scalar_in category
long_binary-is s bs rest found = scalar-is code.Vbin32 s bs rest (binary bs) refl refl found refl

pub string-is : (s bs rest : List ℕ) → sized_at false s ≡ Some (bs, rest) → is_utf8 bs ≡ true → IsScalar (0xA1 ∷ s) rest (string bs)
unfolding scalar_in category
string-is s bs rest found valid = scalar-is code.Str8 s bs rest (string bs) refl refl found (rw valid refl)

pub long_string-is : (s bs rest : List ℕ) → sized_at true s ≡ Some (bs, rest) → is_utf8 bs ≡ true → IsScalar (0xB1 ∷ s) rest (string bs)
unfolding scalar_in category
long_string-is s bs rest found valid = scalar-is code.Str32 s bs rest (string bs) refl refl found (rw valid refl)

pub symbol-is : (s bs rest : List ℕ) → sized_at false s ≡ Some (bs, rest) → is_utf8 bs ≡ true → IsScalar (0xA3 ∷ s) rest (symbol bs)
unfolding scalar_in category
symbol-is s bs rest found valid = scalar-is code.Sym8 s bs rest (symbol bs) refl refl found (rw valid refl)

pub long_symbol-is : (s bs rest : List ℕ) → sized_at true s ≡ Some (bs, rest) → is_utf8 bs ≡ true → IsScalar (0xB3 ∷ s) rest (symbol bs)
unfolding scalar_in category
long_symbol-is s bs rest found valid = scalar-is code.Sym32 s bs rest (symbol bs) refl refl found (rw valid refl)
