-- The encoding of a tree that is not transparent is one encoded value.
use Rattle.std.proofs.Common.{◌≡◌, ℕ, ◌+◌, ◌*◌, ◌<◌, Bool, true, false, ◌&&◌, IsTrue, List, [], ◌∷◌, ◌++◌, length, refl, sym, subst, arith, length-append, if◌then◌else◌, nat_le, nat_eq, nat_lt}
use Rattle.std.proofs.lemmas.Nat.{from_be_bytes-to_be_bytes_4}
use Rattle.std.specs.Int.{w8, w16, w32, w64, to_be_bytes, from_be_bytes}
use Rattle.amqp_frame.specs.Code.{is_primitive_code, category, size_width, body_len, payload_len}
use Rattle.amqp_frame.specs.EncodedValue.{IsEncodedValue}
use Rattle.amqp_frame.proofs.Cuts.{some-byte}
use Rattle.amqp_frame.specs.declared.code.Category.TheVariants.{Fixed, OneByteSize, FourByteSize}
use Rattle.amqp_ser.specs.Tree.{Scalar, null, bool, ubyte, ushort, uint, ulong, byte, short, int, long, float, double, decimal32, decimal64, decimal128, char, timestamp, uuid, binary, string, symbol, Descriptor, name, code, Tree, scalar, list, array, map, described, variant, lazy, transparent, no_trees, count, pair_count, is_transparent}
use Rattle.amqp_ser.specs.Limits.{fits, is_short}
use Rattle.amqp_ser.specs.Ranged.{IsRanged, IsRangedScalar, IsRangedDescriptor}
use Rattle.amqp_ser.specs.Scalars.{scalar_form, signed_bytes, is_small, sized}
use Rattle.amqp_ser.specs.Encoding.{encoding, encoding_each, encoding_pairs, payload_each, array_constructor, wide, list_form, map_form, array_form, descriptor_form}
use Rattle.amqp_ser.specs.Writable.{scalar_fits, descriptor_fits, within_limits, uniform_arrays, inside, placed, writable}
use Rattle.amqp_ser.proofs.Bools.{is_le, left_true, right_true}

-- A payload of fixed width.
of_width : (c : ℕ) (p : List ℕ) (n : ℕ) → IsTrue (is_primitive_code c) → category c ≡ Fixed n → length p ≡ n → IsEncodedValue (c ∷ p)
unfolding size_width body_len
of_width c p n ok is len = IsEncodedValue.primitive c p ok (subst (λ k. length p ≡ payload_len k p) (sym is) (omega (arith, len)))

-- A payload with a size of one byte.
of_one_byte : (c size : ℕ) (body : List ℕ) → IsTrue (is_primitive_code c) → category c ≡ OneByteSize → length body ≡ size → IsEncodedValue (c ∷ size ∷ body)
unfolding size_width body_len
of_one_byte c size body ok is len =
    IsEncodedValue.primitive c (size ∷ body) ok (subst (λ k. length (size ∷ body) ≡ payload_len k (size ∷ body)) (sym is) (omega (arith, len)))

four_bytes : (n : ℕ) (bs : List ℕ) → n < 4294967296 → from_be_bytes w32 (to_be_bytes w32 n ++ bs) ≡ n
four_bytes n bs lt = from_be_bytes-to_be_bytes_4 n (omega arith)

-- A payload with a size of four bytes.
of_four_bytes : (c size : ℕ) (body : List ℕ) → IsTrue (is_primitive_code c) → category c ≡ FourByteSize → length body ≡ size → size < 4294967296 → IsEncodedValue (c ∷ (to_be_bytes w32 size ++ body))
unfolding size_width body_len
of_four_bytes c size body ok is len lt =
    let p : List ℕ = to_be_bytes w32 size ++ body in
    let told = four_bytes size body lt in
    let whole : length p ≡ 4 + length body = omega (arith, length-append (to_be_bytes w32 size) body) in
    IsEncodedValue.primitive c p ok (subst (λ k. length p ≡ payload_len k p) (sym is) (omega (arith, len, told, whole)))

either : (b : Bool) {xs ys : List ℕ} → IsEncodedValue xs → IsEncodedValue ys → IsEncodedValue (if b then xs else ys)
either true f g = f
either false f g = g

-- A length that fits, plus the four bytes of a count, is less than 2^32.
below : (n : ℕ) → fits n ≡ true → n + 4 < 4294967296
below n h = let l = is_le n 4294967291 h in omega arith

sized_is_encoded : (c8 c32 : ℕ) (bs : List ℕ) → IsTrue (is_primitive_code c8) → IsTrue (is_primitive_code c32) → category c8 ≡ OneByteSize → category c32 ≡ FourByteSize → fits (length bs) ≡ true → IsEncodedValue (sized c8 c32 bs)
sized_is_encoded c8 c32 bs p8 p32 is8 is32 h =
    let lt = below (length bs) h in
    either (is_short (length bs)) (of_one_byte c8 (length bs) bs p8 is8 refl) (of_four_bytes c32 (length bs) bs p32 is32 refl (omega arith))

scalar_is_encoded : (s : Scalar) → IsRangedScalar s → scalar_fits s ≡ true → IsEncodedValue (scalar_form s)
unfolding is_primitive_code category
scalar_is_encoded null r h = of_width 0x40 [] 0 refl refl refl
scalar_is_encoded (bool true) r h = of_width 0x41 [] 0 refl refl refl
scalar_is_encoded (bool false) r h = of_width 0x42 [] 0 refl refl refl
scalar_is_encoded (ubyte n) r h = of_width 0x50 (to_be_bytes w8 n) 1 refl refl refl
scalar_is_encoded (ushort n) r h = of_width 0x60 (to_be_bytes w16 n) 2 refl refl refl
scalar_is_encoded (uint n) r h =
    either (nat_eq n 0) (of_width 0x43 [] 0 refl refl refl)
    (either (nat_lt n 256) (of_width 0x52 (to_be_bytes w8 n) 1 refl refl refl) (of_width 0x70 (to_be_bytes w32 n) 4 refl refl refl))
scalar_is_encoded (ulong n) r h =
    either (nat_eq n 0) (of_width 0x44 [] 0 refl refl refl)
    (either (nat_lt n 256) (of_width 0x53 (to_be_bytes w8 n) 1 refl refl refl) (of_width 0x80 (to_be_bytes w64 n) 8 refl refl refl))
scalar_is_encoded (byte z) r h = of_width 0x51 (signed_bytes w8 z) 1 refl refl refl
scalar_is_encoded (short z) r h = of_width 0x61 (signed_bytes w16 z) 2 refl refl refl
scalar_is_encoded (int z) r h = either (is_small z) (of_width 0x54 (signed_bytes w8 z) 1 refl refl refl) (of_width 0x71 (signed_bytes w32 z) 4 refl refl refl)
scalar_is_encoded (long z) r h = either (is_small z) (of_width 0x55 (signed_bytes w8 z) 1 refl refl refl) (of_width 0x81 (signed_bytes w64 z) 8 refl refl refl)
scalar_is_encoded (float n) r h = of_width 0x72 (to_be_bytes w32 n) 4 refl refl refl
scalar_is_encoded (double n) r h = of_width 0x82 (to_be_bytes w64 n) 8 refl refl refl
scalar_is_encoded (decimal32 bs) r h = of_width 0x74 bs 4 refl refl r.0
scalar_is_encoded (decimal64 bs) r h = of_width 0x84 bs 8 refl refl r.0
scalar_is_encoded (decimal128 bs) r h = of_width 0x94 bs 16 refl refl r.0
scalar_is_encoded (char c) r h = of_width 0x73 (to_be_bytes w32 c) 4 refl refl refl
scalar_is_encoded (timestamp z) r h = of_width 0x83 (signed_bytes w64 z) 8 refl refl refl
scalar_is_encoded (uuid bs) r h = of_width 0x98 bs 16 refl refl r.0
scalar_is_encoded (binary bs) r h = sized_is_encoded 0xa0 0xb0 bs refl refl refl refl h
scalar_is_encoded (string bs) r h = sized_is_encoded 0xa1 0xb1 bs refl refl refl refl h
scalar_is_encoded (symbol bs) r h = sized_is_encoded 0xa3 0xb3 bs refl refl refl refl h

descriptor_is_encoded : (d : Descriptor) → IsRangedDescriptor d → descriptor_fits d ≡ true → IsEncodedValue (descriptor_form d)
descriptor_is_encoded (name bs) r h = scalar_is_encoded (symbol bs) r h
descriptor_is_encoded (code n) r h = scalar_is_encoded (ulong n) r refl

-- A body of n parts, with size and count in one byte each or in four bytes each.
compound_is_encoded : (b : Bool) (c8 c32 n : ℕ) (body : List ℕ) → IsTrue (is_primitive_code c8) → IsTrue (is_primitive_code c32) → category c8 ≡ OneByteSize → category c32 ≡ FourByteSize → fits (length body) ≡ true
    → IsEncodedValue (if b then c8 ∷ (length body + 1) ∷ n ∷ body else c32 ∷ wide n body)
compound_is_encoded b c8 c32 n body p8 p32 is8 is32 h =
    let lt = below (length body) h in
    either b (of_one_byte c8 (length body + 1) (n ∷ body) p8 is8 (omega arith))
    (of_four_bytes c32 (length body + 4) (to_be_bytes w32 n ++ body) p32 is32 (omega (arith, length-append (to_be_bytes w32 n) body)) lt)

list_is_encoded : (n : ℕ) (body : List ℕ) → fits (length body) ≡ true → IsEncodedValue (list_form n body)
unfolding is_primitive_code category
list_is_encoded n [] h = of_width 0x45 [] 0 refl refl refl
list_is_encoded n (b ∷ bs) h = compound_is_encoded (is_short (length (b ∷ bs))) 0xc0 0xd0 n (b ∷ bs) refl refl refl refl h

map_is_encoded : (n : ℕ) (body : List ℕ) → fits (length body) ≡ true → IsEncodedValue (map_form n body)
unfolding is_primitive_code category
map_is_encoded n body h = compound_is_encoded (is_short (length body)) 0xc1 0xd1 n body refl refl refl refl h

array_is_encoded : (n : ℕ) (content : List ℕ) → fits (length content) ≡ true → IsEncodedValue (array_form n content)
unfolding is_primitive_code category
array_is_encoded n content h = compound_is_encoded (is_short (length content) && nat_le n 255) 0xe0 0xf0 n content refl refl refl refl h

pub inside_is_encoded : (t : Tree) → IsRanged t → within_limits t ≡ true → inside t ≡ true → IsEncodedValue (encoding t)
inside_is_encoded (scalar s) r h i = scalar_is_encoded s r h
inside_is_encoded (list ts) r h i = list_is_encoded (count ts) (encoding_each ts) (left_true _ _ h)
inside_is_encoded (array ts) r h i = array_is_encoded (count ts) (array_constructor ts ++ payload_each ts) (left_true _ _ h)
inside_is_encoded (map ps) r h i = map_is_encoded (pair_count ps * 2) (encoding_pairs ps) (left_true _ _ h)
inside_is_encoded (described d t) r h i =
    let w = right_true _ (descriptor_fits d && within_limits t) h in
    IsEncodedValue.described (descriptor_form d) (encoding t) (descriptor_is_encoded d r.0 (left_true _ _ w)) (inside_is_encoded t r.1 (right_true _ _ w) i)
inside_is_encoded (variant n t) r h i = map_is_encoded 2 (scalar_form (uint n) ++ encoding t) (left_true _ _ h)
inside_is_encoded (lazy bs) r h i = r.1
inside_is_encoded (transparent ts) r h i = absurd cc

-- A placed tree that is not transparent contains no transparent tree.
pub inside_placed : (t : Tree) → placed t ≡ true → is_transparent t ≡ false → inside t ≡ true
inside_placed (scalar s) h n = refl
inside_placed (list ts) h n = h
inside_placed (array ts) h n = h
inside_placed (map ps) h n = h
inside_placed (described d t) h n = h
inside_placed (variant i t) h n = h
inside_placed (lazy bs) h n = refl
inside_placed (transparent ts) h n = absurd cc

pub encoding_is_encoded : (t : Tree) → IsRanged t → writable t ≡ true → is_transparent t ≡ false → IsEncodedValue (encoding t)
encoding_is_encoded t r h n =
    let rest = right_true (within_limits t) (uniform_arrays t && placed t) h in
    inside_is_encoded t r (left_true _ _ h) (inside_placed t (right_true _ _ rest) n)

-- The lemma does not hold for transparent trees: an empty one is encoded as no bytes.
no_bytes : ¬ IsEncodedValue (encoding (transparent no_trees))
no_bytes f =
    let some = some-byte [] f in
    omega arith
