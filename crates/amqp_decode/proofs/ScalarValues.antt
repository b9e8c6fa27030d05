-- An untyped value of fixed width, with its format code.
use Rattle.std.proofs.Common.{rules, ◌≡◌, ℕ, ℤ, true, false, List, ◌∷◌, Some}
use Rattle.std.specs.Int.{w8, w16, w32, w64, from_be_bytes, cast_signed}
use Rattle.amqp_data.specs.Fixed.{f32_bits, f64_bits, milliseconds_of}
use Rattle.amqp_data.specs.declared.bits.F32Bits.{F32Bits}
use Rattle.amqp_data.specs.declared.bits.F64Bits.{F64Bits}
use Rattle.amqp_data.specs.declared.timestamp.Timestamp.{Timestamp}
use Rattle.amqp_ser.specs.Tree.{Scalar, scalar, null, bool, ubyte, ushort, uint, ulong, byte, short, int, long, float, double, timestamp}
use Rattle.amqp_value.specs.TreeOf.{tree_of}
use Rattle.amqp_value.specs.declared.value.Value.{Value, the_lemmas}
use Rattle.amqp_value.specs.declared.value.Value.TheVariants as kind
use Rattle.amqp_decode.specs.Scalars.{exact}
use Rattle.amqp_decode.specs.Parsed.{ValueReader, ContentReader, cut, value_in_bytes}
use Rattle.amqp_decode.specs.Prefix.{IsScalar}
use Rattle.amqp_decode.proofs.ScalarForms.{null-is, true-is, false-is, zero_uint-is, zero_ulong-is, ubyte-is, byte-is, small_uint-is, small_ulong-is, small_int-is, small_long-is, ushort-is, short-is, float-is, uint-is, int-is, ulong-is, long-is, double-is, timestamp-is}

module _ (f : ValueReader) (h : ContentReader) where
  as_value : (s rest : List ℕ) (k : Scalar) (v : Value) → IsScalar s rest k → tree_of v ≡ scalar k → value_in_bytes f h s ≡ Some (tree_of v, rest)
  as_value s rest k v is means = rw means (is f h)

  pub null-as_value : (s : List ℕ) → value_in_bytes f h (0x40 ∷ s) ≡ Some (tree_of kind.Null, s)
  null-as_value s = as_value (0x40 ∷ s) s null kind.Null (null-is s) (search (rules, the_lemmas))

  pub true-as_value : (s : List ℕ) → value_in_bytes f h (0x41 ∷ s) ≡ Some (tree_of (kind.Bool true), s)
  true-as_value s = as_value (0x41 ∷ s) s (bool true) (kind.Bool true) (true-is s) (search (rules, the_lemmas))

  pub false-as_value : (s : List ℕ) → value_in_bytes f h (0x42 ∷ s) ≡ Some (tree_of (kind.Bool false), s)
  false-as_value s = as_value (0x42 ∷ s) s (bool false) (kind.Bool false) (false-is s) (search (rules, the_lemmas))

  pub zero_uint-as_value : (s : List ℕ) → value_in_bytes f h (0x43 ∷ s) ≡ Some (tree_of (kind.Uint 0), s)
  zero_uint-as_value s = as_value (0x43 ∷ s) s (uint 0) (kind.Uint 0) (zero_uint-is s) (search (rules, the_lemmas))

  pub zero_ulong-as_value : (s : List ℕ) → value_in_bytes f h (0x44 ∷ s) ≡ Some (tree_of (kind.Ulong 0), s)
  zero_ulong-as_value s = as_value (0x44 ∷ s) s (ulong 0) (kind.Ulong 0) (zero_ulong-is s) (search (rules, the_lemmas))

  pub ubyte-as_value : (a : ℕ) (s : List ℕ) (n : ℕ) → n ≡ a → value_in_bytes f h (0x50 ∷ a ∷ s) ≡ Some (tree_of (kind.Ubyte n), s)
  ubyte-as_value a s n is = as_value (0x50 ∷ a ∷ s) s (ubyte n) (kind.Ubyte n) (ubyte-is a s n is) (search (rules, the_lemmas))

  pub byte-as_value : (a : ℕ) (s : List ℕ) (n : ℤ) → n ≡ cast_signed w8 a → value_in_bytes f h (0x51 ∷ a ∷ s) ≡ Some (tree_of (kind.Byte n), s)
  byte-as_value a s n is = as_value (0x51 ∷ a ∷ s) s (byte n) (kind.Byte n) (byte-is a s n is) (search (rules, the_lemmas))

  pub small_uint-as_value : (a : ℕ) (s : List ℕ) (n : ℕ) → n ≡ a → value_in_bytes f h (0x52 ∷ a ∷ s) ≡ Some (tree_of (kind.Uint n), s)
  small_uint-as_value a s n is = as_value (0x52 ∷ a ∷ s) s (uint n) (kind.Uint n) (small_uint-is a s n is) (search (rules, the_lemmas))

  pub small_ulong-as_value : (a : ℕ) (s : List ℕ) (n : ℕ) → n ≡ a → value_in_bytes f h (0x53 ∷ a ∷ s) ≡ Some (tree_of (kind.Ulong n), s)
  small_ulong-as_value a s n is = as_value (0x53 ∷ a ∷ s) s (ulong n) (kind.Ulong n) (small_ulong-is a s n is) (search (rules, the_lemmas))

  pub small_int-as_value : (a : ℕ) (s : List ℕ) (n : ℤ) → n ≡ cast_signed w8 a → value_in_bytes f h (0x54 ∷ a ∷ s) ≡ Some (tree_of (kind.Int n), s)
  small_int-as_value a s n is = as_value (0x54 ∷ a ∷ s) s (int n) (kind.Int n) (small_int-is a s n is) (search (rules, the_lemmas))

  pub small_long-as_value : (a : ℕ) (s : List ℕ) (n : ℤ) → n ≡ cast_signed w8 a → value_in_bytes f h (0x55 ∷ a ∷ s) ≡ Some (tree_of (kind.Long n), s)
  small_long-as_value a s n is = as_value (0x55 ∷ a ∷ s) s (long n) (kind.Long n) (small_long-is a s n is) (search (rules, the_lemmas))

  pub ushort-as_value : (s bs rest : List ℕ) (n : ℕ) → n ≡ from_be_bytes w16 bs → cut 2 s ≡ Some (bs, rest) → exact 2 bs ≡ Some bs
      → value_in_bytes f h (0x60 ∷ s) ≡ Some (tree_of (kind.Ushort n), rest)
  ushort-as_value s bs rest n is found whole = as_value (0x60 ∷ s) rest (ushort n) (kind.Ushort n) (ushort-is s bs rest n is found whole) (search (rules, the_lemmas))

  pub short-as_value : (s bs rest : List ℕ) (n : ℤ) → n ≡ cast_signed w16 (from_be_bytes w16 bs) → cut 2 s ≡ Some (bs, rest) → exact 2 bs ≡ Some bs
      → value_in_bytes f h (0x61 ∷ s) ≡ Some (tree_of (kind.Short n), rest)
  short-as_value s bs rest n is found whole = as_value (0x61 ∷ s) rest (short n) (kind.Short n) (short-is s bs rest n is found whole) (search (rules, the_lemmas))

  pub float-as_value : (s bs rest : List ℕ) (x : F32Bits) → f32_bits x ≡ from_be_bytes w32 bs → cut 4 s ≡ Some (bs, rest) → exact 4 bs ≡ Some bs
      → value_in_bytes f h (0x72 ∷ s) ≡ Some (tree_of (kind.Float x), rest)
  float-as_value s bs rest x is found whole = as_value (0x72 ∷ s) rest (float (f32_bits x)) (kind.Float x) (float-is s bs rest (f32_bits x) is found whole) (search (rules, the_lemmas))

  pub uint-as_value : (s bs rest : List ℕ) (n : ℕ) → n ≡ from_be_bytes w32 bs → cut 4 s ≡ Some (bs, rest) → exact 4 bs ≡ Some bs
      → value_in_bytes f h (0x70 ∷ s) ≡ Some (tree_of (kind.Uint n), rest)
  uint-as_value s bs rest n is found whole = as_value (0x70 ∷ s) rest (uint n) (kind.Uint n) (uint-is s bs rest n is found whole) (search (rules, the_lemmas))

  pub int-as_value : (s bs rest : List ℕ) (n : ℤ) → n ≡ cast_signed w32 (from_be_bytes w32 bs) → cut 4 s ≡ Some (bs, rest) → exact 4 bs ≡ Some bs
      → value_in_bytes f h (0x71 ∷ s) ≡ Some (tree_of (kind.Int n), rest)
  int-as_value s bs rest n is found whole = as_value (0x71 ∷ s) rest (int n) (kind.Int n) (int-is s bs rest n is found whole) (search (rules, the_lemmas))

  pub ulong-as_value : (s bs rest : List ℕ) (n : ℕ) → n ≡ from_be_bytes w64 bs → cut 8 s ≡ Some (bs, rest) → exact 8 bs ≡ Some bs
      → value_in_bytes f h (0x80 ∷ s) ≡ Some (tree_of (kind.Ulong n), rest)
  ulong-as_value s bs rest n is found whole = as_value (0x80 ∷ s) rest (ulong n) (kind.Ulong n) (ulong-is s bs rest n is found whole) (search (rules, the_lemmas))

  pub long-as_value : (s bs rest : List ℕ) (n : ℤ) → n ≡ cast_signed w64 (from_be_bytes w64 bs) → cut 8 s ≡ Some (bs, rest) → exact 8 bs ≡ Some bs
      → value_in_bytes f h (0x81 ∷ s) ≡ Some (tree_of (kind.Long n), rest)
  long-as_value s bs rest n is found whole = as_value (0x81 ∷ s) rest (long n) (kind.Long n) (long-is s bs rest n is found whole) (search (rules, the_lemmas))

  pub double-as_value : (s bs rest : List ℕ) (x : F64Bits) → f64_bits x ≡ from_be_bytes w64 bs → cut 8 s ≡ Some (bs, rest) → exact 8 bs ≡ Some bs
      → value_in_bytes f h (0x82 ∷ s) ≡ Some (tree_of (kind.Double x), rest)
  double-as_value s bs rest x is found whole = as_value (0x82 ∷ s) rest (double (f64_bits x)) (kind.Double x) (double-is s bs rest (f64_bits x) is found whole) (search (rules, the_lemmas))

  pub timestamp-as_value : (s bs rest : List ℕ) (x : Timestamp) → milliseconds_of x ≡ cast_signed w64 (from_be_bytes w64 bs) → cut 8 s ≡ Some (bs, rest) → exact 8 bs ≡ Some bs
      → value_in_bytes f h (0x83 ∷ s) ≡ Some (tree_of (kind.Timestamp x), rest)
  timestamp-as_value s bs rest x is found whole = as_value (0x83 ∷ s) rest (timestamp (milliseconds_of x)) (kind.Timestamp x) (timestamp-is s bs rest (milliseconds_of x) is found whole) (search (rules, the_lemmas))
