-- Trees whose contents are in the ranges of their types, with one encoded value in each lazy tree.
-- The tree of every Rust value is in range.
use Rattle.std.specs.Prelude.{◌≡◌, ℕ, List, length, All, ◌<◌, ◌^◌}
use Rattle.std.specs.Prelude.{FitsSigned}
use Rattle.std.specs.Int.{w8, w16, w32, w64}
use Rattle.std.specs.Char.{IsScalar}
use Rattle.std.specs.Str.{IsUtf8}
use Rattle.amqp_frame.specs.EncodedValue.{IsEncodedValue}
use Rattle.amqp_ser.specs.Tree.{Scalar, null, bool, ubyte, ushort, uint, ulong, byte, short, int, long, float, double, decimal32, decimal64, decimal128, char, timestamp, uuid, binary, string, symbol, Descriptor, name, code, Tree, Trees, Pairs, scalar, list, array, map, described, variant, lazy, transparent, no_trees, more, no_pairs, pair}

-- Each element is a byte.
abbrev pub AreBytes : List ℕ → Type 0
AreBytes bs = All (λ b. b < 256) bs

-- A list of exactly n bytes.
abbrev pub AreExactly : ℕ → List ℕ → Type 0
AreExactly n bs = (length bs ≡ n) × AreBytes bs

abbrev pub IsRangedScalar : Scalar → Type 0
IsRangedScalar null = Unit {0}
IsRangedScalar (bool b) = Unit {0}
IsRangedScalar (ubyte n) = n < 2 ^ 8
IsRangedScalar (ushort n) = n < 2 ^ 16
IsRangedScalar (uint n) = n < 2 ^ 32
IsRangedScalar (ulong n) = n < 2 ^ 64
IsRangedScalar (byte z) = FitsSigned w8 z
IsRangedScalar (short z) = FitsSigned w16 z
IsRangedScalar (int z) = FitsSigned w32 z
IsRangedScalar (long z) = FitsSigned w64 z
IsRangedScalar (float n) = n < 2 ^ 32
IsRangedScalar (double n) = n < 2 ^ 64
IsRangedScalar (decimal32 bs) = AreExactly 4 bs
IsRangedScalar (decimal64 bs) = AreExactly 8 bs
IsRangedScalar (decimal128 bs) = AreExactly 16 bs
IsRangedScalar (char c) = IsScalar c
IsRangedScalar (timestamp z) = FitsSigned w64 z
IsRangedScalar (uuid bs) = AreExactly 16 bs
IsRangedScalar (binary bs) = AreBytes bs
IsRangedScalar (string bs) = IsUtf8 bs
IsRangedScalar (symbol bs) = IsUtf8 bs

abbrev pub IsRangedDescriptor : Descriptor → Type 0
IsRangedDescriptor (name bs) = IsUtf8 bs
IsRangedDescriptor (code n) = n < 2 ^ 64

abbrev mutual
  pub IsRanged : Tree → Type 0
  IsRanged (scalar s) = IsRangedScalar s
  IsRanged (list ts) = AreRanged ts
  IsRanged (array ts) = AreRanged ts
  IsRanged (map ps) = HasRangedPairs ps
  IsRanged (described d t) = IsRangedDescriptor d × IsRanged t
  IsRanged (variant i t) = (i < 2 ^ 32) × IsRanged t
  IsRanged (lazy bs) = AreBytes bs × IsEncodedValue bs
  IsRanged (transparent ts) = AreRanged ts

  pub AreRanged : Trees → Type 0
  AreRanged no_trees = Unit {0}
  AreRanged (more t ts) = IsRanged t × AreRanged ts

  pub HasRangedPairs : Pairs → Type 0
  HasRangedPairs no_pairs = Unit {0}
  HasRangedPairs (pair k v ps) = IsRanged k × IsRanged v × HasRangedPairs ps
