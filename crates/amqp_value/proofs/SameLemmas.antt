-- Trees are the same if and only if they are equal.
use Rattle.std.proofs.Common.{◌≡◌, ℕ, ℤ, Bool, true, false, true≢false, ◌&&◌, ◌==◌, List, [], ◌∷◌, refl, sym, ap, arith}
use Rattle.std.specs.Ordering.{int_eq}
use Rattle.std.proofs.lemmas.Bool.{and_parts}
use Rattle.std.proofs.lemmas.Grind.{common_steps}
use Rattle.amqp_ser.specs.Tree.{Scalar, null, bool, ubyte, ushort, uint, ulong, byte, short, int, long, float, double, decimal32, decimal64, decimal128, char, timestamp, uuid, binary, string, symbol, Descriptor, name, code, Tree, Trees, Pairs, scalar, list, array, map, described, variant, lazy, transparent, no_trees, more, no_pairs, pair}
use Rattle.amqp_ser.specs.Same.{same_tree, same_trees, same_pairs, same_scalar, same_descriptor, same_bytes, same_bool}

pub numbers : (a b : ℕ) → (a == b) ≡ true → a ≡ b
numbers a b h = grind (arith, common_steps)

integers : (a b : ℤ) → int_eq a b ≡ true → a ≡ b
integers a b h = grind (arith, common_steps)

bytes : (a b : List ℕ) → same_bytes a b ≡ true → a ≡ b
bytes [] [] h = refl
bytes [] (y ∷ ys) h = absurd (true≢false (sym h))
bytes (x ∷ xs) [] h = absurd (true≢false (sym h))
bytes (x ∷ xs) (y ∷ ys) h = let e = and_parts (x == y) (same_bytes xs ys) h in λ i. numbers x y e.0 i ∷ bytes xs ys e.1 i

bools : (a b : Bool) → same_bool a b ≡ true → a ≡ b
bools true true h = refl
bools true false h = absurd (true≢false (sym h))
bools false true h = absurd (true≢false (sym h))
bools false false h = refl

scalars : (a b : Scalar) → same_scalar a b ≡ true → a ≡ b
scalars null null h = refl
scalars (bool a) (bool b) h = ap bool (bools a b h)
scalars (ubyte a) (ubyte b) h = ap ubyte (numbers a b h)
scalars (ushort a) (ushort b) h = ap ushort (numbers a b h)
scalars (uint a) (uint b) h = ap uint (numbers a b h)
scalars (ulong a) (ulong b) h = ap ulong (numbers a b h)
scalars (byte a) (byte b) h = ap byte (integers a b h)
scalars (short a) (short b) h = ap short (integers a b h)
scalars (int a) (int b) h = ap int (integers a b h)
scalars (long a) (long b) h = ap long (integers a b h)
scalars (float a) (float b) h = ap float (numbers a b h)
scalars (double a) (double b) h = ap double (numbers a b h)
scalars (decimal32 a) (decimal32 b) h = ap decimal32 (bytes a b h)
scalars (decimal64 a) (decimal64 b) h = ap decimal64 (bytes a b h)
scalars (decimal128 a) (decimal128 b) h = ap decimal128 (bytes a b h)
scalars (char a) (char b) h = ap char (numbers a b h)
scalars (timestamp a) (timestamp b) h = ap timestamp (integers a b h)
scalars (uuid a) (uuid b) h = ap uuid (bytes a b h)
scalars (binary a) (binary b) h = ap binary (bytes a b h)
scalars (string a) (string b) h = ap string (bytes a b h)
scalars (symbol a) (symbol b) h = ap symbol (bytes a b h)
scalars _ _ h = absurd (true≢false (sym h))

descriptors : (a b : Descriptor) → same_descriptor a b ≡ true → a ≡ b
descriptors (name a) (name b) h = ap name (bytes a b h)
descriptors (name a) (code b) h = absurd (true≢false (sym h))
descriptors (code a) (name b) h = absurd (true≢false (sym h))
descriptors (code a) (code b) h = ap code (numbers a b h)

mutual
  -- Trees that are the same are equal.
  pub same-equal : (t u : Tree) → same_tree t u ≡ true → t ≡ u
  same-equal (scalar a) (scalar b) h = ap scalar (scalars a b h)
  same-equal (list ts) (list us) h = ap list (sames-equal ts us h)
  same-equal (array ts) (array us) h = ap array (sames-equal ts us h)
  same-equal (map ps) (map qs) h = ap map (pairs-equal ps qs h)
  same-equal (described d t) (described e u) h =
      let s = and_parts (same_descriptor d e) (same_tree t u) h in λ i. described (descriptors d e s.0 i) (same-equal t u s.1 i)
  same-equal (variant m t) (variant n u) h = let s = and_parts (m == n) (same_tree t u) h in λ i. variant (numbers m n s.0 i) (same-equal t u s.1 i)
  same-equal (lazy a) (lazy b) h = ap lazy (bytes a b h)
  same-equal (transparent ts) (transparent us) h = ap transparent (sames-equal ts us h)
  same-equal _ _ h = absurd (true≢false (sym h))

  pub sames-equal : (ts us : Trees) → same_trees ts us ≡ true → ts ≡ us
  sames-equal no_trees no_trees h = refl
  sames-equal (more t ts) (more u us) h =
      let s = and_parts (same_tree t u) (same_trees ts us) h in λ i. more (same-equal t u s.0 i) (sames-equal ts us s.1 i)
  sames-equal _ _ h = absurd (true≢false (sym h))

  pub pairs-equal : (ps qs : Pairs) → same_pairs ps qs ≡ true → ps ≡ qs
  pairs-equal no_pairs no_pairs h = refl
  pairs-equal (pair k v ps) (pair l w qs) h =
      let s = and_parts (same_tree k l && same_tree v w) (same_pairs ps qs) h in
      let e = and_parts (same_tree k l) (same_tree v w) s.0 in
      λ i. pair (same-equal k l e.0 i) (same-equal v w e.1 i) (pairs-equal ps qs s.1 i)
  pairs-equal _ _ h = absurd (true≢false (sym h))

number_itself : (a : ℕ) → (a == a) ≡ true
number_itself a = grind (arith, common_steps)

integer_itself : (a : ℤ) → int_eq a a ≡ true
integer_itself a = grind (arith, common_steps)

bytes_itself : (a : List ℕ) → same_bytes a a ≡ true
bytes_itself [] = refl
bytes_itself (x ∷ xs) = rw (number_itself x) (bytes_itself xs)

bool_itself : (a : Bool) → same_bool a a ≡ true
bool_itself true = refl
bool_itself false = refl

scalar_itself : (s : Scalar) → same_scalar s s ≡ true
scalar_itself null = refl
scalar_itself (bool a) = bool_itself a
scalar_itself (ubyte a) = number_itself a
scalar_itself (ushort a) = number_itself a
scalar_itself (uint a) = number_itself a
scalar_itself (ulong a) = number_itself a
scalar_itself (byte a) = integer_itself a
scalar_itself (short a) = integer_itself a
scalar_itself (int a) = integer_itself a
scalar_itself (long a) = integer_itself a
scalar_itself (float a) = number_itself a
scalar_itself (double a) = number_itself a
scalar_itself (decimal32 a) = bytes_itself a
scalar_itself (decimal64 a) = bytes_itself a
scalar_itself (decimal128 a) = bytes_itself a
scalar_itself (char a) = number_itself a
scalar_itself (timestamp a) = integer_itself a
scalar_itself (uuid a) = bytes_itself a
scalar_itself (binary a) = bytes_itself a
scalar_itself (string a) = bytes_itself a
scalar_itself (symbol a) = bytes_itself a

descriptor_itself : (d : Descriptor) → same_descriptor d d ≡ true
descriptor_itself (name a) = bytes_itself a
descriptor_itself (code a) = number_itself a

mutual
  -- A tree is the same as itself.
  pub same-itself : (t : Tree) → same_tree t t ≡ true
  same-itself (scalar s) = scalar_itself s
  same-itself (list ts) = sames-itself ts
  same-itself (array ts) = sames-itself ts
  same-itself (map ps) = pairs-itself ps
  same-itself (described d t) = λ i. descriptor_itself d i && same-itself t i
  same-itself (variant n t) = λ i. number_itself n i && same-itself t i
  same-itself (lazy a) = bytes_itself a
  same-itself (transparent ts) = sames-itself ts

  pub sames-itself : (ts : Trees) → same_trees ts ts ≡ true
  sames-itself no_trees = refl
  sames-itself (more t ts) = λ i. same-itself t i && sames-itself ts i

  pub pairs-itself : (ps : Pairs) → same_pairs ps ps ≡ true
  pairs-itself no_pairs = refl
  pairs-itself (pair k v ps) = λ i. (same-itself k i && same-itself v i) && pairs-itself ps i
