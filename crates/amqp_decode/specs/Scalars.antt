-- The scalar that the content of a code's payload encodes (AMQP 1.0 part 1, sections 1.6.1 to
-- 1.6.21).
use Rattle.std.specs.Prelude.{ℕ, Bool, true, false, ◌==◌, ◌&&◌, ◌||◌, nat_lt, nat_le, if◌then◌else◌, List, [], ◌∷◌, length, Option, Some, None}
use Rattle.std.specs.Int.{w8, w16, w32, w64, from_be_bytes, cast_signed}
use Rattle.std.specs.Str.{is_utf8}
use Rattle.amqp_data.specs.declared.format_code.EncodingCodes.{EncodingCodes}
use Rattle.amqp_data.specs.declared.format_code.EncodingCodes.TheVariants as code
use Rattle.amqp_ser.specs.Tree.{Tree, scalar, Scalar, null, bool, ubyte, ushort, uint, ulong, byte, short, int, long, float, double, decimal32, decimal64, decimal128, char, timestamp, uuid, binary, string, symbol}

-- The second step, if the first one has a result.
abbrev pub and_then : {A B : Type 0} → Option A → (A → Option B) → Option B
and_then None f = None
and_then (Some a) f = f a

-- A scalar, if the content was read.
abbrev pub scalar_from : {A : Type 0} → (A → Scalar) → Option A → Option Scalar
scalar_from k None = None
scalar_from k (Some a) = Some (k a)

-- Exactly one byte.
abbrev pub single : List ℕ → Option ℕ
single (b ∷ []) = Some b
single _ = None

-- Exactly `n` bytes.
abbrev pub exact : ℕ → List ℕ → Option (List ℕ)
exact n bs = if length bs == n then Some bs else None

-- A boolean, encoded as the byte 00 or 01.
abbrev pub truth : ℕ → Option Scalar
truth b = if b == 0 then Some (bool false) else if b == 1 then Some (bool true) else None

-- A character, given by a number that is a Unicode scalar value.
abbrev pub is_scalar_value : ℕ → Bool
is_scalar_value n = nat_lt n 0xD800 || (nat_le 0xE000 n && nat_le n 0x10FFFF)

abbrev pub character : ℕ → Option Scalar
character n = if is_scalar_value n then Some (char n) else None

-- A text in UTF-8.
abbrev pub text : (List ℕ → Scalar) → List ℕ → Option Scalar
text k bs = if is_utf8 bs then Some (k bs) else None

-- Numbers are big-endian, and signed ones are in two's complement. Codes of other shapes encode no
-- scalar.
unfoldable pub scalar_in : EncodingCodes → List ℕ → Option Scalar
scalar_in code.Null bs = Some null
scalar_in code.BooleanTrue bs = Some (bool true)
scalar_in code.BooleanFalse bs = Some (bool false)
scalar_in code.Uint0 bs = Some (uint 0)
scalar_in code.Ulong0 bs = Some (ulong 0)
scalar_in code.Ubyte bs = scalar_from ubyte (single bs)
scalar_in code.Byte bs = scalar_from (λ b. byte (cast_signed w8 b)) (single bs)
scalar_in code.SmallUint bs = scalar_from uint (single bs)
scalar_in code.SmallUlong bs = scalar_from ulong (single bs)
scalar_in code.SmallInt bs = scalar_from (λ b. int (cast_signed w8 b)) (single bs)
scalar_in code.SmallLong bs = scalar_from (λ b. long (cast_signed w8 b)) (single bs)
scalar_in code.Boolean bs = and_then (single bs) truth
scalar_in code.Ushort bs = scalar_from (λ b. ushort (from_be_bytes w16 b)) (exact 2 bs)
scalar_in code.Short bs = scalar_from (λ b. short (cast_signed w16 (from_be_bytes w16 b))) (exact 2 bs)
scalar_in code.Uint bs = scalar_from (λ b. uint (from_be_bytes w32 b)) (exact 4 bs)
scalar_in code.Int bs = scalar_from (λ b. int (cast_signed w32 (from_be_bytes w32 b))) (exact 4 bs)
scalar_in code.Float bs = scalar_from (λ b. float (from_be_bytes w32 b)) (exact 4 bs)
scalar_in code.Char bs = and_then (exact 4 bs) (λ b. character (from_be_bytes w32 b))
scalar_in code.Decimal32 bs = scalar_from decimal32 (exact 4 bs)
scalar_in code.Ulong bs = scalar_from (λ b. ulong (from_be_bytes w64 b)) (exact 8 bs)
scalar_in code.Long bs = scalar_from (λ b. long (cast_signed w64 (from_be_bytes w64 b))) (exact 8 bs)
scalar_in code.Double bs = scalar_from (λ b. double (from_be_bytes w64 b)) (exact 8 bs)
scalar_in code.Timestamp bs = scalar_from (λ b. timestamp (cast_signed w64 (from_be_bytes w64 b))) (exact 8 bs)
scalar_in code.Decimal64 bs = scalar_from decimal64 (exact 8 bs)
scalar_in code.Decimal128 bs = scalar_from decimal128 (exact 16 bs)
scalar_in code.Uuid bs = scalar_from uuid (exact 16 bs)
scalar_in code.Vbin8 bs = Some (binary bs)
scalar_in code.Vbin32 bs = Some (binary bs)
scalar_in code.Str8 bs = text string bs
scalar_in code.Str32 bs = text string bs
scalar_in code.Sym8 bs = text symbol bs
scalar_in code.Sym32 bs = text symbol bs
scalar_in _ bs = None

-- A scalar as a tree.
abbrev pub scalar_tree : Scalar → Option Tree
scalar_tree s = Some (scalar s)
