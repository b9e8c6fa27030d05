-- The lengths of trees within their limits.
use Rattle.std.proofs.Common.{◌≡◌, ℕ, ◌+◌, ◌*◌, ◌<◌, ◌≤◌, ◌^◌, List, [], ◌∷◌, ◌++◌, ◌&&◌, Bool, true, false, length, nat_le, nat_eq, nat_lt, arith, if◌then◌else◌}
use Rattle.amqp_ser.specs.Tree.{Scalar, null, bool, ubyte, ushort, uint, ulong, byte, short, int, long, float, double, decimal32, decimal64, decimal128, char, timestamp, uuid, binary, string, symbol, Tree, scalar, list, array, map, described, variant, lazy, transparent, count, pair_count}
use Rattle.amqp_ser.specs.Limits.{fits, is_short}
use Rattle.amqp_ser.specs.Ranged.{IsRanged, IsRangedScalar}
use Rattle.amqp_ser.specs.Scalars.{scalar_form, is_small, sized}
use Rattle.amqp_ser.specs.Encoding.{encoding, encoding_each, encoding_pairs, payload_each, array_constructor, counted, list_form, array_form}
use Rattle.amqp_ser.specs.Writable.{within_limits, scalar_fits}
use Rattle.amqp_ser.proofs.Bools.{is_le, left_true}

if_length : (b : Bool) (n : ℕ) (xs ys : List ℕ) → length xs ≤ n → length ys ≤ n → length (if b then xs else ys) ≤ n
if_length true n xs ys h k = h
if_length false n xs ys h k = k

length-sized : (c8 c32 : ℕ) (bs : List ℕ) → length (sized c8 c32 bs) ≤ length bs + 5
length-sized c8 c32 bs = if_length (is_short (length bs)) _ _ _ (omega arith) (omega arith)

length-counted : (c8 c32 n : ℕ) (body : List ℕ) → length (counted c8 c32 n body) ≤ length body + 9
length-counted c8 c32 n body = if_length (is_short (length body)) _ _ _ (omega arith) (omega arith)

length-list_form : (n : ℕ) (body : List ℕ) → length (list_form n body) ≤ length body + 9
length-list_form n [] = omega arith
length-list_form n (b ∷ bs) = length-counted 0xc0 0xd0 n (b ∷ bs)

length-array_form : (n : ℕ) (content : List ℕ) → length (array_form n content) ≤ length content + 9
length-array_form n content = if_length (is_short (length content) && nat_le n 255) _ _ _ (omega arith) (omega arith)

-- A length that exceeds a fitting length by at most 9 is less than 2^64.
below : (n m : ℕ) → fits n ≡ true → m ≤ n + 9 → m < 2 ^ 64
below n m h k = let l = is_le n 4294967291 h in omega arith

small : (m : ℕ) → m ≤ 9 → m < 2 ^ 64
small m h = omega arith

scalar_length : (s : Scalar) → IsRangedScalar s → scalar_fits s ≡ true → length (scalar_form s) < 2 ^ 64
scalar_length null r h = omega arith
scalar_length (bool true) r h = omega arith
scalar_length (bool false) r h = omega arith
scalar_length (ubyte n) r h = omega arith
scalar_length (ushort n) r h = omega arith
scalar_length (uint n) r h = small _ (if_length (nat_eq n 0) 9 _ _ (omega arith) (if_length (nat_lt n 256) 9 _ _ (omega arith) (omega arith)))
scalar_length (ulong n) r h = small _ (if_length (nat_eq n 0) 9 _ _ (omega arith) (if_length (nat_lt n 256) 9 _ _ (omega arith) (omega arith)))
scalar_length (byte z) r h = omega arith
scalar_length (short z) r h = omega arith
scalar_length (int z) r h = small _ (if_length (is_small z) 9 _ _ (omega arith) (omega arith))
scalar_length (long z) r h = small _ (if_length (is_small z) 9 _ _ (omega arith) (omega arith))
scalar_length (float n) r h = omega arith
scalar_length (double n) r h = omega arith
scalar_length (decimal32 bs) r h = let l = r.0 in omega arith
scalar_length (decimal64 bs) r h = let l = r.0 in omega arith
scalar_length (decimal128 bs) r h = let l = r.0 in omega arith
scalar_length (char c) r h = omega arith
scalar_length (timestamp z) r h = omega arith
scalar_length (uuid bs) r h = let l = r.0 in omega arith
scalar_length (binary bs) r h = below (length bs) _ h (let l = length-sized 0xa0 0xb0 bs in omega arith)
scalar_length (string bs) r h = below (length bs) _ h (let l = length-sized 0xa1 0xb1 bs in omega arith)
scalar_length (symbol bs) r h = below (length bs) _ h (let l = length-sized 0xa3 0xb3 bs in omega arith)

pub within_length : (t : Tree) → IsRanged t → within_limits t ≡ true → length (encoding t) < 2 ^ 64
within_length (scalar s) r h = scalar_length s r h
within_length (list ts) r h = below (length (encoding_each ts)) _ (left_true _ _ h) (length-list_form (count ts) (encoding_each ts))
within_length (array ts) r h = let content = array_constructor ts ++ payload_each ts in below (length content) _ (left_true _ _ h) (length-array_form (count ts) content)
within_length (map ps) r h = below (length (encoding_pairs ps)) _ (left_true _ _ h) (length-counted 0xc1 0xd1 (pair_count ps * 2) (encoding_pairs ps))
within_length (described d t) r h = let l = is_le (length (encoding (described d t))) 18446744073709551615 (left_true _ _ h) in omega arith
within_length (variant i t) r h = let body = scalar_form (uint i) ++ encoding t in below (length body) _ (left_true _ _ h) (length-counted 0xc1 0xd1 2 body)
within_length (lazy bs) r h = let l = is_le (length bs) 18446744073709551615 h in omega arith
within_length (transparent ts) r h = let l = is_le (length (encoding_each ts)) 18446744073709551615 (left_true _ _ h) in omega arith
