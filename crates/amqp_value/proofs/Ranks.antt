-- Trees of different kinds compare by the ranks of their kinds.
use Rattle.std.proofs.Common.{◌≡◌, ℕ, true, cond, ◌<◌, ◌==◌, nat_lt, ap, ◌∙◌, arith}
use Rattle.std.proofs.lemmas.Grind.{common_steps}
use Rattle.std.specs.Ordering.{nat_cmp}
use Rattle.std.specs.declared.cmp.Ordering.TheVariants.{Less, Equal, Greater}
use Rattle.amqp_ser.specs.Tree.{Scalar, bool, ubyte, ushort, uint, ulong, byte, short, int, long, float, double, decimal32, decimal64, decimal128, char, timestamp, uuid, binary, string, symbol, Tree, scalar, list, array, map, described, variant, lazy, transparent}
use Rattle.amqp_value.specs.Order.{scalar_rank, rank, cmp_scalar, cmp_tree}
use Rattle.amqp_value.specs.TreeOf.{tree_of}
use Rattle.amqp_value.specs.declared.value.Value.{Value}
use Rattle.amqp_value.proofs.OrderLemmas.{compare, compare-is_order}

test : (m n : ℕ) → m < n → nat_lt m n ≡ true
test m n h = grind (arith, common_steps)

less : (m n : ℕ) → m < n → nat_cmp m n ≡ Less
less m n h = ap (λ b. cond b Less (cond (m == n) Equal Greater)) (test m n h)

scalars : (a b : Scalar) → scalar_rank a < scalar_rank b → cmp_scalar a b ≡ Less
scalars (bool a) (bool b) h = absurd (omega arith)
scalars (ubyte a) (ubyte b) h = absurd (omega arith)
scalars (ushort a) (ushort b) h = absurd (omega arith)
scalars (uint a) (uint b) h = absurd (omega arith)
scalars (ulong a) (ulong b) h = absurd (omega arith)
scalars (byte a) (byte b) h = absurd (omega arith)
scalars (short a) (short b) h = absurd (omega arith)
scalars (int a) (int b) h = absurd (omega arith)
scalars (long a) (long b) h = absurd (omega arith)
scalars (float a) (float b) h = absurd (omega arith)
scalars (double a) (double b) h = absurd (omega arith)
scalars (decimal32 a) (decimal32 b) h = absurd (omega arith)
scalars (decimal64 a) (decimal64 b) h = absurd (omega arith)
scalars (decimal128 a) (decimal128 b) h = absurd (omega arith)
scalars (char a) (char b) h = absurd (omega arith)
scalars (timestamp a) (timestamp b) h = absurd (omega arith)
scalars (uuid a) (uuid b) h = absurd (omega arith)
scalars (binary a) (binary b) h = absurd (omega arith)
scalars (string a) (string b) h = absurd (omega arith)
scalars (symbol a) (symbol b) h = absurd (omega arith)
scalars a b h = less (scalar_rank a) (scalar_rank b) h

trees : (t u : Tree) → rank t < rank u → cmp_tree t u ≡ Less
trees (scalar a) (scalar b) h = scalars a b h
trees (list ts) (list us) h = absurd (omega arith)
trees (array ts) (array us) h = absurd (omega arith)
trees (map ps) (map qs) h = absurd (omega arith)
trees (described d t) (described e u) h = absurd (omega arith)
trees (variant m t) (variant n u) h = absurd (omega arith)
trees (lazy a) (lazy b) h = absurd (omega arith)
trees (transparent ts) (transparent us) h = absurd (omega arith)
trees t u h = less (rank t) (rank u) h

pub compare-rank : (a b : Value) → rank (tree_of a) < rank (tree_of b) → compare a b ≡ Less
compare-rank a b h = compare-is_order a b ∙ trees (tree_of a) (tree_of b) h
