-- The encodings of null and of the scalars (AMQP 1.0 part 1, sections 1.6.1 to 1.6.21).
use Rattle.std.specs.Prelude.{ℕ, ℤ, pos, negsuc, Bool, true, false, ◌&&◌, List, [], ◌∷◌, ◌++◌, length, nat_eq, nat_lt, int_le, if◌then◌else◌}
use Rattle.std.specs.Int.{Width, w8, w16, w32, w64, to_be_bytes, cast_unsigned}
use Rattle.amqp_ser.specs.Tree.{Scalar, null, bool, ubyte, ushort, uint, ulong, byte, short, int, long, float, double, decimal32, decimal64, decimal128, char, timestamp, uuid, binary, string, symbol}
use Rattle.amqp_ser.specs.Limits.{is_short}

-- A signed number in two's complement, most significant byte first.
abbrev pub signed_bytes : Width → ℤ → List ℕ
signed_bytes w z = to_be_bytes w (cast_unsigned w z)

-- A signed number that fits in one byte.
abbrev pub is_small : ℤ → Bool
is_small z = int_le (negsuc 127) z && int_le z (pos 127)

-- The constructor of a scalar in an array.
abbrev pub scalar_code : Scalar → ℕ
scalar_code null = 0x40
scalar_code (bool b) = 0x56
scalar_code (ubyte n) = 0x50
scalar_code (ushort n) = 0x60
scalar_code (uint n) = 0x70
scalar_code (ulong n) = 0x80
scalar_code (byte z) = 0x51
scalar_code (short z) = 0x61
scalar_code (int z) = 0x71
scalar_code (long z) = 0x81
scalar_code (float n) = 0x72
scalar_code (double n) = 0x82
scalar_code (decimal32 bs) = 0x74
scalar_code (decimal64 bs) = 0x84
scalar_code (decimal128 bs) = 0x94
scalar_code (char c) = 0x73
scalar_code (timestamp z) = 0x83
scalar_code (uuid bs) = 0x98
scalar_code (binary bs) = 0xb0
scalar_code (string bs) = 0xb1
scalar_code (symbol bs) = 0xb3

-- The payload of a scalar in an array, after the constructor: the widest form.
abbrev pub scalar_payload : Scalar → List ℕ
scalar_payload null = []
scalar_payload (bool true) = 1 ∷ []
scalar_payload (bool false) = 0 ∷ []
scalar_payload (ubyte n) = to_be_bytes w8 n
scalar_payload (ushort n) = to_be_bytes w16 n
scalar_payload (uint n) = to_be_bytes w32 n
scalar_payload (ulong n) = to_be_bytes w64 n
scalar_payload (byte z) = signed_bytes w8 z
scalar_payload (short z) = signed_bytes w16 z
scalar_payload (int z) = signed_bytes w32 z
scalar_payload (long z) = signed_bytes w64 z
scalar_payload (float n) = to_be_bytes w32 n
scalar_payload (double n) = to_be_bytes w64 n
scalar_payload (decimal32 bs) = bs
scalar_payload (decimal64 bs) = bs
scalar_payload (decimal128 bs) = bs
scalar_payload (char c) = to_be_bytes w32 c
scalar_payload (timestamp z) = signed_bytes w64 z
scalar_payload (uuid bs) = bs
scalar_payload (binary bs) = to_be_bytes w32 (length bs) ++ bs
scalar_payload (string bs) = to_be_bytes w32 (length bs) ++ bs
scalar_payload (symbol bs) = to_be_bytes w32 (length bs) ++ bs

-- Bytes after their length, with the format codes for a length of one byte and for a length of four
-- bytes.
abbrev pub sized : ℕ → ℕ → List ℕ → List ℕ
sized c8 c32 bs = if is_short (length bs) then c8 ∷ length bs ∷ bs else c32 ∷ (to_be_bytes w32 (length bs) ++ bs)

-- A scalar outside an array, in the shortest form that this library writes.
abbrev pub scalar_form : Scalar → List ℕ
scalar_form null = 0x40 ∷ []
scalar_form (bool true) = 0x41 ∷ []
scalar_form (bool false) = 0x42 ∷ []
scalar_form (ubyte n) = 0x50 ∷ to_be_bytes w8 n
scalar_form (ushort n) = 0x60 ∷ to_be_bytes w16 n
scalar_form (uint n) = if nat_eq n 0 then 0x43 ∷ [] else if nat_lt n 256 then 0x52 ∷ to_be_bytes w8 n else 0x70 ∷ to_be_bytes w32 n
scalar_form (ulong n) = if nat_eq n 0 then 0x44 ∷ [] else if nat_lt n 256 then 0x53 ∷ to_be_bytes w8 n else 0x80 ∷ to_be_bytes w64 n
scalar_form (byte z) = 0x51 ∷ signed_bytes w8 z
scalar_form (short z) = 0x61 ∷ signed_bytes w16 z
scalar_form (int z) = if is_small z then 0x54 ∷ signed_bytes w8 z else 0x71 ∷ signed_bytes w32 z
scalar_form (long z) = if is_small z then 0x55 ∷ signed_bytes w8 z else 0x81 ∷ signed_bytes w64 z
scalar_form (float n) = 0x72 ∷ to_be_bytes w32 n
scalar_form (double n) = 0x82 ∷ to_be_bytes w64 n
scalar_form (decimal32 bs) = 0x74 ∷ bs
scalar_form (decimal64 bs) = 0x84 ∷ bs
scalar_form (decimal128 bs) = 0x94 ∷ bs
scalar_form (char c) = 0x73 ∷ to_be_bytes w32 c
scalar_form (timestamp z) = 0x83 ∷ signed_bytes w64 z
scalar_form (uuid bs) = 0x98 ∷ bs
scalar_form (binary bs) = sized 0xa0 0xb0 bs
scalar_form (string bs) = sized 0xa1 0xb1 bs
scalar_form (symbol bs) = sized 0xa3 0xb3 bs
