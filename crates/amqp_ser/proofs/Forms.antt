-- The form of a tree outside an array, compared with its payload in an array.
use Rattle.std.proofs.Common.{◌≡◌, ℕ, ◌*◌, List, [], ◌∷◌, ◌++◌, ◌&&◌, inl, inr, Some, Bool, true, false, length, nat_le, nat_eq, nat_lt, refl, subst, arith, if◌then◌else◌}
use Rattle.amqp_ser.specs.Tree.{Scalar, null, bool, ubyte, ushort, uint, ulong, byte, short, int, long, float, double, decimal32, decimal64, decimal128, char, timestamp, uuid, binary, string, symbol, Tree, scalar, list, array, map, described, variant, lazy, transparent, count, pair_count}
use Rattle.amqp_ser.specs.Limits.{is_short}
use Rattle.amqp_ser.specs.Scalars.{scalar_code, scalar_payload, scalar_form, is_small}
use Rattle.amqp_ser.specs.Forms.{IsForm, has_one_form}
use Rattle.amqp_ser.specs.Encoding.{constructor, encoding, payload, encoding_each, encoding_pairs, payload_each, array_constructor, wide, counted, list_form, array_form}

if_form : (b : Bool) (c : ℕ) (p xs ys : List ℕ) → IsForm c p xs → IsForm c p ys → IsForm c p (if b then xs else ys)
if_form true c p xs ys f g = f
if_form false c p xs ys f g = g

scalar_IsForm : (s : Scalar) → IsForm (scalar_code s) (scalar_payload s) (scalar_form s)
scalar_IsForm null = inl refl
scalar_IsForm (bool true) = inr (omega arith)
scalar_IsForm (bool false) = inr (omega arith)
scalar_IsForm (ubyte n) = inl refl
scalar_IsForm (ushort n) = inl refl
scalar_IsForm (uint n) = if_form (nat_eq n 0) _ _ _ _ (inr (omega arith)) (if_form (nat_lt n 256) _ _ _ _ (inr (omega arith)) (inl refl))
scalar_IsForm (ulong n) = if_form (nat_eq n 0) _ _ _ _ (inr (omega arith)) (if_form (nat_lt n 256) _ _ _ _ (inr (omega arith)) (inl refl))
scalar_IsForm (byte z) = inl refl
scalar_IsForm (short z) = inl refl
scalar_IsForm (int z) = if_form (is_small z) _ _ _ _ (inr (omega arith)) (inl refl)
scalar_IsForm (long z) = if_form (is_small z) _ _ _ _ (inr (omega arith)) (inl refl)
scalar_IsForm (float n) = inl refl
scalar_IsForm (double n) = inl refl
scalar_IsForm (decimal32 bs) = inl refl
scalar_IsForm (decimal64 bs) = inl refl
scalar_IsForm (decimal128 bs) = inl refl
scalar_IsForm (char c) = inl refl
scalar_IsForm (timestamp z) = inl refl
scalar_IsForm (uuid bs) = inl refl
scalar_IsForm (binary bs) = if_form (is_short (length bs)) _ _ _ _ (inr (omega arith)) (inl refl)
scalar_IsForm (string bs) = if_form (is_short (length bs)) _ _ _ _ (inr (omega arith)) (inl refl)
scalar_IsForm (symbol bs) = if_form (is_short (length bs)) _ _ _ _ (inr (omega arith)) (inl refl)

counted_IsForm : (c8 c32 n : ℕ) (body : List ℕ) → IsForm c32 (wide n body) (counted c8 c32 n body)
counted_IsForm c8 c32 n body = if_form (is_short (length body)) _ _ _ _ (inr (omega arith)) (inl refl)

list_IsForm : (n : ℕ) (body : List ℕ) → IsForm 0xd0 (wide n body) (list_form n body)
list_IsForm n [] = inr (omega arith)
list_IsForm n (b ∷ bs) = counted_IsForm 0xc0 0xd0 n (b ∷ bs)

array_IsForm : (n : ℕ) (content : List ℕ) → IsForm 0xf0 (wide n content) (array_form n content)
array_IsForm n content = if_form (is_short (length content) && nat_le n 255) _ _ _ _ (inr (omega arith)) (inl refl)

same : {A : Type 0} {a b : A} → Some a ≡ Some b → a ≡ b
same h = cc

pub tree_IsForm : (t : Tree) (c : ℕ) → constructor t ≡ Some c → IsForm c (payload t) (encoding t)
tree_IsForm (scalar s) c h = subst (λ k. IsForm k (scalar_payload s) (scalar_form s)) (same h) (scalar_IsForm s)
tree_IsForm (list ts) c h = subst (λ k. IsForm k (payload (list ts)) (encoding (list ts))) (same h) (list_IsForm (count ts) (encoding_each ts))
tree_IsForm (array ts) c h = subst (λ k. IsForm k (payload (array ts)) (encoding (array ts))) (same h) (array_IsForm (count ts) (array_constructor ts ++ payload_each ts))
tree_IsForm (map ps) c h = subst (λ k. IsForm k (payload (map ps)) (encoding (map ps))) (same h) (counted_IsForm 0xc1 0xd1 (pair_count ps * 2) (encoding_pairs ps))
tree_IsForm (described d t) c h = cc
tree_IsForm (variant i t) c h = subst (λ k. IsForm k (payload (variant i t)) (encoding (variant i t))) (same h) (counted_IsForm 0xc1 0xd1 2 (scalar_form (uint i) ++ encoding t))
tree_IsForm (lazy bs) c h = cc
tree_IsForm (transparent ts) c h = cc

pub one_form : (s : Scalar) → has_one_form s ≡ true → scalar_form s ≡ scalar_code s ∷ scalar_payload s
one_form null h = refl
one_form (bool b) h = cc
one_form (ubyte n) h = refl
one_form (ushort n) h = refl
one_form (uint n) h = cc
one_form (ulong n) h = cc
one_form (byte z) h = refl
one_form (short z) h = refl
one_form (int z) h = cc
one_form (long z) h = cc
one_form (float n) h = refl
one_form (double n) h = refl
one_form (decimal32 bs) h = refl
one_form (decimal64 bs) h = refl
one_form (decimal128 bs) h = refl
one_form (char c) h = refl
one_form (timestamp z) h = refl
one_form (uuid bs) h = refl
one_form (binary bs) h = cc
one_form (string bs) h = cc
one_form (symbol bs) h = cc
