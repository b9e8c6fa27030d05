-- The encoding of a tree encodes its image.
use Rattle.std.proofs.Common.{◌≡◌, ℕ, zero, suc, ◌+◌, ◌*◌, ◌<◌, ◌≤◌, Bool, true, false, ◌&&◌, IsTrue, List, [], ◌∷◌, ◌++◌, length, Option, Some, None, refl, sym, ap, ◌∙◌, subst, arith, length-append, if◌then◌else◌, nat_le}
use Rattle.std.proofs.lemmas.List.{append-nil}
use Rattle.std.proofs.lemmas.Bool.{and_parts}
use Rattle.std.proofs.lemmas.Bool.Decides.{nat_tests}
use Rattle.std.specs.Int.{to_be_bytes, w32}
use Rattle.amqp_data.specs.FormatCode.{code_of}
use Rattle.amqp_data.specs.declared.format_code.EncodingCodes.{EncodingCodes}
use Rattle.amqp_data.specs.declared.format_code.EncodingCodes.TheVariants as code
use Rattle.amqp_frame.specs.Code.{category}
use Rattle.amqp_frame.specs.declared.code.Category.TheVariants.{OneByteSize, FourByteSize}
use Rattle.amqp_ser.specs.Encoding.{constructor, code_list, array_constructor, wide, list_form, map_form, array_form, descriptor_form, encoding, payload, encoding_each, payload_each, encoding_pairs}
use Rattle.amqp_ser.specs.Limits.{is_short, fits, is_count}
use Rattle.amqp_ser.specs.Ranged.{IsRanged, AreRanged, HasRangedPairs}
use Rattle.amqp_ser.specs.Scalars.{scalar_code, scalar_form}
use Rattle.amqp_ser.specs.Tree.{uint, Tree, Trees, Pairs, scalar, list, array, map, described, variant, lazy, transparent, no_trees, more, no_pairs, pair, count, pair_count, trees_of}
use Rattle.amqp_ser.specs.Writable.{descriptor_fits, within_limits, within_limits_each, within_limits_pairs, same_constructor, each_constructor, one_constructor, uniform_arrays, uniform_arrays_each, uniform_arrays_pairs}
use Rattle.amqp_value.specs.Image.{image, images, images_onto, insert_tree}
use Rattle.amqp_decode.specs.Codes.{is_primitive}
use Rattle.amqp_decode.specs.Depth.{depth_of, depth_of_each, depth_of_pairs, IsOrdinary, AreOrdinary, HasOrdinaryPairs}
use Rattle.amqp_decode.specs.Encodes.{IsNumber, IsPayload, IsCounted, Encodes, EncodesContent, EncodesElements, EncodesItems, EncodesEntries}
use Rattle.amqp_decode.specs.declared.payload.Count.TheVariants.{Absent, OneByte, FourBytes}
use Rattle.amqp_value.proofs.CodeLemmas.{same-is}
use Rattle.amqp_decode.proofs.CodeLemmas.{code-is}
use Rattle.amqp_decode.proofs.Means.{pick}
use Rattle.amqp_decode.proofs.ScalarBytes.{widest, widest-code, widest-primitive, scalar-parse_content, scalar-bytes, descriptor-bytes, four-number}

-- The images of trees, as a list.
abbrev images_list : Trees → List Tree
images_list no_trees = []
images_list (more t ts) = image t ∷ images_list ts

images-listed : (ts : Trees) → trees_of (images_list ts) ≡ images ts
images-listed no_trees = refl
images-listed (more t ts) = ap (more (image t)) (images-listed ts)

-- A payload whose content encodes the tree.
abbrev HeldTree : ℕ → EncodingCodes → List ℕ → Tree → Type 0
HeldTree d c p t = (content : List ℕ) × IsPayload (category (code_of c)) p content × EncodesContent d c content t

-- The code of a tree as an array element, or 00 if it has none.
abbrev own_code : Tree → EncodingCodes
own_code (scalar s) = widest s
own_code (list ts) = code.List32
own_code (array ts) = code.Array32
own_code (map ps) = code.Map32
own_code (variant i t) = code.Map32
own_code _ = code.DescribedType

own-code : (t : Tree) (n : ℕ) → constructor t ≡ Some n → (code_of (own_code t) ≡ n) × IsTrue (is_primitive (own_code t))
own-code (scalar s) n e =
    let is : scalar_code s ≡ n = cc in
    (widest-code s ∙ is, widest-primitive s)
own-code (list ts) n e = (cc, refl)
own-code (array ts) n e = (cc, refl)
own-code (map ps) n e = (cc, refl)
own-code (variant i t) n e = (cc, refl)
own-code (described d t) n e = absurd cc
own-code (lazy bs) n e = absurd cc
own-code (transparent ts) n e = absurd cc

short-payload : (n : ℕ) (body : List ℕ) → IsPayload OneByteSize ((length body + 1) ∷ n ∷ body) (n ∷ body)
short-payload n body =
    let len : suc (length body) ≡ length body + 1 = omega arith in
    subst (λ m. IsPayload OneByteSize (m ∷ n ∷ body) (n ∷ body)) len (IsPayload.of_one_byte (n ∷ body))

fits-number : (n : ℕ) → fits n ≡ true → n ≤ 4294967291
fits-number n e = grind (arith, nat_tests)

wide-payload : (n : ℕ) (body : List ℕ) → fits (length body) ≡ true → IsPayload FourByteSize (wide n body) (to_be_bytes w32 n ++ body)
wide-payload n body ok =
    let le = fits-number (length body) ok in
    let len : length body + 4 ≡ length (to_be_bytes w32 n ++ body) = omega (arith, length-append (to_be_bytes w32 n) body) in
    IsPayload.of_four_bytes (to_be_bytes w32 (length body + 4)) (to_be_bytes w32 n ++ body)
    (subst (IsNumber (to_be_bytes w32 (length body + 4))) len (four-number (length body + 4) (omega arith)))

wide-counted : (n : ℕ) (body : List ℕ) → n < 4294967296 → IsCounted FourBytes (to_be_bytes w32 n ++ body) n body
wide-counted n body lt = IsCounted.in_four_bytes (to_be_bytes w32 n) n body (four-number n lt)

-- A compound whose size and count have one byte each, or four.
module _ (d n : ℕ) (body : List ℕ) (t : Tree) (ok : fits (length body) ≡ true) where
  either-encoded : (short : Bool) (c8 c32 : EncodingCodes) → IsTrue (is_primitive c8) → IsTrue (is_primitive c32)
      → category (code_of c8) ≡ OneByteSize → category (code_of c32) ≡ FourByteSize
      → EncodesContent d c8 (n ∷ body) t → EncodesContent d c32 (to_be_bytes w32 n ++ body) t
      → Encodes d (if short then code_of c8 ∷ (length body + 1) ∷ n ∷ body else code_of c32 ∷ wide n body) t
  either-encoded short c8 c32 p8 p32 is8 is32 h8 h32 =
      pick (λ z. Encodes d z t) short (code_of c8 ∷ (length body + 1) ∷ n ∷ body) (code_of c32 ∷ wide n body)
      (λ _. Encodes.primitive d c8 ((length body + 1) ∷ n ∷ body) (n ∷ body) t p8 (subst (λ k. IsPayload k ((length body + 1) ∷ n ∷ body) (n ∷ body)) (sym is8) (short-payload n body)) h8)
      (λ _. Encodes.primitive d c32 (wide n body) (to_be_bytes w32 n ++ body) t p32 (subst (λ k. IsPayload k (wide n body) (to_be_bytes w32 n ++ body)) (sym is32) (wide-payload n body ok)) h32)

-- Each encoded value has at least one byte.
some-byte : {d : ℕ} {a : List ℕ} {t : Tree} → Encodes d a t → 0 < length a
some-byte (Encodes.primitive d c p s t ok is h) = omega arith
some-byte (Encodes.described d a b l t is sp) = omega arith

elements-count : {d n : ℕ} {b : List ℕ} {ts : List Tree} → EncodesElements d n b ts → n ≤ length b
elements-count (EncodesElements.no_element d) = omega arith
elements-count (EncodesElements.element d n a b t ts sp rest) = omega (arith, some-byte sp, elements-count rest, length-append a b)

elements-none : {d n : ℕ} {b : List ℕ} {ts : List Tree} → EncodesElements d n b ts → n ≡ 0 → ts ≡ []
elements-none (EncodesElements.no_element d) e = refl
elements-none (EncodesElements.element d n a b t ts sp rest) e = absurd (omega arith)

entries-count : {d n : ℕ} {b : List ℕ} {done ps : Pairs} → EncodesEntries d n b done ps → 2 * n ≤ length b
entries-count (EncodesEntries.no_entry d ps) = omega arith
entries-count (EncodesEntries.entry d n a b rest k v done ps sk sv entries) =
    omega (arith, some-byte sk, some-byte sv, entries-count entries, length-append a (b ++ rest), length-append b rest)

list-bytes : (d n : ℕ) (body : List ℕ) (ts : List Tree) → fits (length body) ≡ true → EncodesElements d n body ts → Encodes (suc d) (list_form n body) (list (trees_of ts))
unfolding category
list-bytes d n [] ts ok el =
    let le = elements-count el in
    let none : ts ≡ [] = elements-none el (omega arith) in
    subst (λ z. Encodes (suc d) (0x45 ∷ []) (list (trees_of z))) (sym none)
    (Encodes.primitive (suc d) code.List0 [] [] _ refl (IsPayload.of_width []) (EncodesContent.a_list d code.List0 Absent [] 0 [] [] refl (IsCounted.in_none []) (EncodesElements.no_element d)))
list-bytes d n (b ∷ bs) ts ok el =
    let le = elements-count el in
    let few = fits-number (length (b ∷ bs)) ok in
    either-encoded (suc d) n (b ∷ bs) (list (trees_of ts)) ok (is_short (length (b ∷ bs))) code.List8 code.List32 refl refl refl refl
    (EncodesContent.a_list d code.List8 OneByte _ n (b ∷ bs) ts refl (IsCounted.in_one_byte n (b ∷ bs)) el)
    (EncodesContent.a_list d code.List32 FourBytes _ n (b ∷ bs) ts refl (wide-counted n (b ∷ bs) (omega arith)) el)

map-parse_content : (d n : ℕ) (body : List ℕ) (ps : Pairs) → fits (length body) ≡ true → EncodesEntries d n body no_pairs ps → EncodesContent (suc d) code.Map32 (to_be_bytes w32 (2 * n) ++ body) (map ps)
map-parse_content d n body ps ok el =
    let le = entries-count el in
    let few = fits-number (length body) ok in
    EncodesContent.a_map d code.Map32 FourBytes _ n body ps refl (wide-counted (2 * n) body (omega arith)) el

map-bytes : (d n : ℕ) (body : List ℕ) (ps : Pairs) → fits (length body) ≡ true → EncodesEntries d n body no_pairs ps → Encodes (suc d) (map_form (2 * n) body) (map ps)
unfolding category
map-bytes d n body ps ok el =
    either-encoded (suc d) (2 * n) body (map ps) ok (is_short (length body)) code.Map8 code.Map32 refl refl refl refl
    (EncodesContent.a_map d code.Map8 OneByte _ n body ps refl (IsCounted.in_one_byte (2 * n) body) el)
    (map-parse_content d n body ps ok el)

array-parse_content : (d n : ℕ) (c : EncodingCodes) (items : List ℕ) (ts : List Tree) → n < 4294967296 → IsTrue (is_primitive c) → EncodesItems d c n items ts
    → EncodesContent (suc d) code.Array32 (to_be_bytes w32 n ++ (code_of c ∷ items)) (array (trees_of ts))
array-parse_content d n c items ts lt ok el = EncodesContent.an_array d code.Array32 FourBytes _ n c items ts refl (wide-counted n (code_of c ∷ items) lt) ok el

array-bytes : (d n : ℕ) (c : EncodingCodes) (items : List ℕ) (ts : List Tree) → fits (length (code_of c ∷ items)) ≡ true → n < 4294967296 → IsTrue (is_primitive c) → EncodesItems d c n items ts
    → Encodes (suc d) (array_form n (code_of c ∷ items)) (array (trees_of ts))
unfolding category
array-bytes d n c items ts fit lt ok el =
    either-encoded (suc d) n (code_of c ∷ items) (array (trees_of ts)) fit (is_short (length (code_of c ∷ items)) && nat_le n 255) code.Array8 code.Array32 refl refl refl refl
    (EncodesContent.an_array d code.Array8 OneByte _ n c items ts refl (IsCounted.in_one_byte n (code_of c ∷ items)) ok el)
    (array-parse_content d n c items ts lt ok el)

-- What is assumed of a tree that is encoded.
abbrev IsGood : Tree → Type 0
IsGood t = IsRanged t × (within_limits t ≡ true) × (uniform_arrays t ≡ true) × IsOrdinary t

abbrev AreGood : Trees → Type 0
AreGood ts = AreRanged ts × (within_limits_each ts ≡ true) × (uniform_arrays_each ts ≡ true) × AreOrdinary ts

abbrev HasGood : Pairs → Type 0
HasGood ps = HasRangedPairs ps × (within_limits_pairs ps ≡ true) × (uniform_arrays_pairs ps ≡ true) × HasOrdinaryPairs ps

first-good : (t : Tree) (ts : Trees) → AreGood (more t ts) → IsGood t × AreGood ts
first-good t ts g =
    let w = and_parts (within_limits t) (within_limits_each ts) g.1 in
    let a = and_parts (uniform_arrays t) (uniform_arrays_each ts) g.2 in
    ((g.0.0, w.0, a.0, g.3.0), (g.0.1, w.1, a.1, g.3.1))

pair-good : (k v : Tree) (ps : Pairs) → HasGood (pair k v ps) → IsGood k × IsGood v × HasGood ps
pair-good k v ps g =
    let w = and_parts (within_limits k) (within_limits v && within_limits_pairs ps) g.1 in
    let wv = and_parts (within_limits v) (within_limits_pairs ps) w.1 in
    let a = and_parts (uniform_arrays k) (uniform_arrays v && uniform_arrays_pairs ps) g.2 in
    let av = and_parts (uniform_arrays v) (uniform_arrays_pairs ps) a.1 in
    ((g.0.0, w.0, a.0, g.3.0), (g.0.1, wv.0, av.0, g.3.1), (g.0.2, wv.1, av.1, g.3.2))

list-good : (ts : Trees) → IsGood (list ts) → (fits (length (encoding_each ts)) ≡ true) × AreGood ts
list-good ts g =
    let w = and_parts (fits (length (encoding_each ts))) (within_limits_each ts) g.1 in
    (w.0, (g.0, w.1, g.2, g.3))

map-good : (ps : Pairs) → IsGood (map ps) → (fits (length (encoding_pairs ps)) ≡ true) × HasGood ps
map-good ps g =
    let w = and_parts (fits (length (encoding_pairs ps))) (within_limits_pairs ps) g.1 in
    (w.0, (g.0, w.1, g.2, g.3))

abbrev content_of : Trees → List ℕ
content_of ts = array_constructor ts ++ payload_each ts

array-good : (ts : Trees) → IsGood (array ts) → (fits (length (content_of ts)) ≡ true) × (count ts < 4294967296) × (one_constructor ts ≡ true) × AreGood ts
array-good ts g =
    let w = and_parts (fits (length (content_of ts))) (is_count (count ts) && within_limits_each ts) g.1 in
    let v = and_parts (is_count (count ts)) (within_limits_each ts) w.1 in
    let a = and_parts (one_constructor ts) (uniform_arrays_each ts) g.2 in
    let n = v.0 in
    let lt : count ts < 4294967296 = grind (arith, nat_tests) in
    (w.0, lt, a.0, (g.0, v.1, a.1, g.3))

variant-good : (i : ℕ) (t : Tree) → IsGood (variant i t) → (fits (length (scalar_form (uint i) ++ encoding t)) ≡ true) × (i < 4294967296) × IsGood t
variant-good i t g =
    let w = and_parts (fits (length (scalar_form (uint i) ++ encoding t))) (within_limits t) g.1 in
    (w.0, g.0.0, (g.0.1, w.1, g.2, g.3))

-- Each element has this code.
abbrev EachOwn : EncodingCodes → Trees → Type 0
EachOwn c no_trees = Unit {0}
EachOwn c (more t ts) = (own_code t ≡ c) × EachOwn c ts

each-own : (c : EncodingCodes) (ts : Trees) → IsTrue (is_primitive c) → each_constructor (Some (code_of c)) ts ≡ true → EachOwn c ts
each-own c no_trees ok h = tt
each-own c (more t ts) ok h =
    let s = and_parts (same_constructor (Some (code_of c)) (constructor t)) (each_constructor (Some (code_of c)) ts) h in
    let own = own-code t (code_of c) (same-is (code_of c) (constructor t) s.0) in
    (code-is (own_code t) c own.1 ok own.0, each-own c ts ok s.1)

-- The elements of an array have one code.
one-own : (t : Tree) (ts : Trees) → one_constructor (more t ts) ≡ true
    → (c : EncodingCodes) × IsTrue (is_primitive c) × (code_list (constructor t) ≡ code_of c ∷ []) × EachOwn c (more t ts)
one-own t ts h = by_con (constructor t) refl h
  where
    by_con : (o : Option ℕ) → constructor t ≡ o → each_constructor o (more t ts) ≡ true
        → (c : EncodingCodes) × IsTrue (is_primitive c) × (code_list (constructor t) ≡ code_of c ∷ []) × EachOwn c (more t ts)
    by_con None e h = absurd cc
    by_con (Some n) e h =
        let own = own-code t n e in
        (own_code t, own.1, ap code_list e ∙ ap (λ m. m ∷ []) (sym own.0), each-own (own_code t) (more t ts) own.1 (subst (λ m. each_constructor (Some m) (more t ts) ≡ true) (sym own.0) h))

pair-entries : (d : ℕ) (a b : List ℕ) (k v : Tree) → Encodes d a k → Encodes d b v → EncodesEntries d 1 (a ++ b) no_pairs (pair k v no_pairs)
pair-entries d a b k v sk sv =
    subst (λ z. EncodesEntries d 1 (a ++ z) no_pairs (pair k v no_pairs)) (append-nil b)
    (EncodesEntries.entry d 0 a b [] k v no_pairs (pair k v no_pairs) sk sv (EncodesEntries.no_entry d (pair k v no_pairs)))

suc-is : (n : ℕ) → suc n ≡ n + 1
suc-is n = omega arith

twice : (ps : Pairs) → 2 * pair_count ps ≡ pair_count ps * 2
twice ps = omega arith

mutual
  unfolding category

  pub own-encoding : (t : Tree) → IsGood t → (d : ℕ) → depth_of t ≤ d → Encodes d (encoding t) (image t)
  own-encoding (scalar s) g zero le = absurd (omega arith)
  own-encoding (scalar s) g (suc d) le = scalar-bytes d s g.0 g.1
  own-encoding (list ts) g zero le = absurd (omega arith)
  own-encoding (list ts) g (suc d) le =
      let l = list-good ts g in
      subst (λ z. Encodes (suc d) (list_form (count ts) (encoding_each ts)) (list z)) (images-listed ts)
      (list-bytes d (count ts) (encoding_each ts) (images_list ts) l.0 (own-elements ts l.1 d (omega arith)))
  own-encoding (array ts) g zero le = absurd (omega arith)
  own-encoding (array no_trees) g (suc d) le =
      Encodes.primitive (suc d) code.Array8 (1 ∷ 0 ∷ []) (0 ∷ []) _ refl (IsPayload.of_one_byte (0 ∷ []))
      (EncodesContent.a_bare_array d code.Array8 OneByte (0 ∷ []) refl (IsCounted.in_one_byte 0 []))
  own-encoding (array (more t ts)) g (suc d) le =
      let l = array-good (more t ts) g in
      let own = one-own t ts l.2 in
      let begins : content_of (more t ts) ≡ code_of own.0 ∷ payload_each (more t ts) = ap (λ z. z ++ payload_each (more t ts)) own.2 in
      let el = each-holds (more t ts) own.0 own.3 own.1 l.3 d (omega arith) in
      subst (λ z. Encodes (suc d) (array_form (count (more t ts)) (content_of (more t ts))) (array z)) (images-listed (more t ts))
      (subst (λ z. Encodes (suc d) (array_form (count (more t ts)) z) (array (trees_of (images_list (more t ts))))) (sym begins)
      (array-bytes d (count (more t ts)) own.0 (payload_each (more t ts)) (images_list (more t ts)) (subst (λ z. fits (length z) ≡ true) begins l.0) l.1 own.1 el))
  own-encoding (map ps) g zero le = absurd (omega arith)
  own-encoding (map ps) g (suc d) le =
      let l = map-good ps g in
      subst (λ n. Encodes (suc d) (map_form n (encoding_pairs ps)) (map (images_onto ps no_pairs))) (twice ps)
      (map-bytes d (pair_count ps) (encoding_pairs ps) (images_onto ps no_pairs) l.0 (own-entries ps no_pairs l.1 d (omega arith)))
  own-encoding (described l t) g zero le = absurd (omega arith)
  own-encoding (described l t) g (suc d) le =
      let w = and_parts _ (descriptor_fits l && within_limits t) g.1 in
      let v = and_parts (descriptor_fits l) (within_limits t) w.1 in
      Encodes.described d (descriptor_form l) (encoding t) l (image t) (descriptor-bytes l g.0.0 v.0) (own-encoding t (g.0.1, v.1, g.2, g.3) d (omega arith))
  own-encoding (variant i t) g zero le = absurd (omega arith)
  own-encoding (variant i t) g (suc zero) le = absurd (omega arith)
  own-encoding (variant i t) g (suc (suc d)) le =
      let l = variant-good i t g in
      map-bytes (suc d) 1 (scalar_form (uint i) ++ encoding t) (pair (scalar (uint i)) (image t) no_pairs) l.0
      (pair-entries (suc d) (scalar_form (uint i)) (encoding t) (scalar (uint i)) (image t) (scalar-bytes d (uint i) l.1 refl) (own-encoding t l.2 (suc d) (omega arith)))
  own-encoding (lazy bs) g d le = absurd g.3
  own-encoding (transparent ts) g d le = absurd g.3

  payload-holds : (t : Tree) → IsGood t → IsTrue (is_primitive (own_code t)) → (d : ℕ) → depth_of t ≤ d → HeldTree d (own_code t) (payload t) (image t)
  payload-holds (scalar s) g ok zero le = absurd (omega arith)
  payload-holds (scalar s) g ok (suc d) le =
      let h = scalar-parse_content s g.0 g.1 in
      (h.0, h.1, EncodesContent.a_scalar d (widest s) h.0 s h.2 h.3)
  payload-holds (list ts) g ok zero le = absurd (omega arith)
  payload-holds (list ts) g ok (suc d) le =
      let l = list-good ts g in
      let el = own-elements ts l.1 d (omega arith) in
      let few = elements-count el in
      let most = fits-number (length (encoding_each ts)) l.0 in (
        to_be_bytes w32 (count ts) ++ encoding_each ts,
        wide-payload (count ts) (encoding_each ts) l.0,
        subst (λ z. EncodesContent (suc d) code.List32 (to_be_bytes w32 (count ts) ++ encoding_each ts) (list z)) (images-listed ts)
            (EncodesContent.a_list d code.List32 FourBytes _ (count ts) (encoding_each ts) (images_list ts) refl (wide-counted (count ts) (encoding_each ts) (omega arith)) el),
      )
  payload-holds (array ts) g ok zero le = absurd (omega arith)
  payload-holds (array no_trees) g ok (suc d) le = (
    to_be_bytes w32 0 ++ [],
    wide-payload 0 [] refl,
    EncodesContent.a_bare_array d code.Array32 FourBytes (to_be_bytes w32 0 ++ []) refl (wide-counted 0 [] (omega arith)),
  )
  payload-holds (array (more t ts)) g ok (suc d) le =
      let l = array-good (more t ts) g in
      let own = one-own t ts l.2 in
      let begins : content_of (more t ts) ≡ code_of own.0 ∷ payload_each (more t ts) = ap (λ z. z ++ payload_each (more t ts)) own.2 in
      let el = each-holds (more t ts) own.0 own.3 own.1 l.3 d (omega arith) in (
        to_be_bytes w32 (count (more t ts)) ++ content_of (more t ts),
        wide-payload (count (more t ts)) (content_of (more t ts)) l.0,
        subst (λ z. EncodesContent (suc d) code.Array32 (to_be_bytes w32 (count (more t ts)) ++ content_of (more t ts)) (array z)) (images-listed (more t ts))
            (subst (λ z. EncodesContent (suc d) code.Array32 (to_be_bytes w32 (count (more t ts)) ++ z) (array (trees_of (images_list (more t ts))))) (sym begins)
            (array-parse_content d (count (more t ts)) own.0 (payload_each (more t ts)) (images_list (more t ts)) l.1 own.1 el)),
      )
  payload-holds (map ps) g ok zero le = absurd (omega arith)
  payload-holds (map ps) g ok (suc d) le =
      let l = map-good ps g in (
        to_be_bytes w32 (pair_count ps * 2) ++ encoding_pairs ps,
        wide-payload (pair_count ps * 2) (encoding_pairs ps) l.0,
        subst (λ n. EncodesContent (suc d) code.Map32 (to_be_bytes w32 n ++ encoding_pairs ps) (map (images_onto ps no_pairs))) (twice ps)
            (map-parse_content d (pair_count ps) (encoding_pairs ps) (images_onto ps no_pairs) l.0 (own-entries ps no_pairs l.1 d (omega arith))),
      )
  payload-holds (described l t) g ok d le = absurd cc
  payload-holds (variant i t) g ok zero le = absurd (omega arith)
  payload-holds (variant i t) g ok (suc zero) le = absurd (omega arith)
  payload-holds (variant i t) g ok (suc (suc d)) le =
      let l = variant-good i t g in
      let body : List ℕ = scalar_form (uint i) ++ encoding t in (
        to_be_bytes w32 2 ++ body,
        wide-payload 2 body l.0,
        map-parse_content (suc d) 1 body (pair (scalar (uint i)) (image t) no_pairs) l.0
            (pair-entries (suc d) (scalar_form (uint i)) (encoding t) (scalar (uint i)) (image t) (scalar-bytes d (uint i) l.1 refl) (own-encoding t l.2 (suc d) (omega arith))),
      )
  payload-holds (lazy bs) g ok d le = absurd g.3
  payload-holds (transparent ts) g ok d le = absurd g.3

  own-elements : (ts : Trees) → AreGood ts → (d : ℕ) → depth_of_each ts ≤ d → EncodesElements d (count ts) (encoding_each ts) (images_list ts)
  own-elements no_trees g d le = EncodesElements.no_element d
  own-elements (more t ts) g d le =
      let f = first-good t ts g in
      subst (λ n. EncodesElements d n (encoding t ++ encoding_each ts) (image t ∷ images_list ts)) (suc-is (count ts))
      (EncodesElements.element d (count ts) (encoding t) (encoding_each ts) (image t) (images_list ts) (own-encoding t f.0 d (omega arith)) (own-elements ts f.1 d (omega arith)))

  each-holds : (ts : Trees) (c : EncodingCodes) → EachOwn c ts → IsTrue (is_primitive c) → AreGood ts → (d : ℕ) → depth_of_each ts ≤ d → EncodesItems d c (count ts) (payload_each ts) (images_list ts)
  each-holds no_trees c each ok g d le = EncodesItems.no_item d c
  each-holds (more t ts) c each ok g d le =
      let f = first-good t ts g in
      let h = subst (λ z. HeldTree d z (payload t) (image t)) each.0 (payload-holds t f.0 (subst (λ z. IsTrue (is_primitive z)) (sym each.0) ok) d (omega arith)) in
      subst (λ n. EncodesItems d c n (payload t ++ payload_each ts) (image t ∷ images_list ts)) (suc-is (count ts))
      (EncodesItems.item d c (count ts) (payload t) h.0 (payload_each ts) (image t) (images_list ts) h.1 h.2 (each-holds ts c each.1 ok f.1 d (omega arith)))

  own-entries : (ps done : Pairs) → HasGood ps → (d : ℕ) → depth_of_pairs ps ≤ d → EncodesEntries d (pair_count ps) (encoding_pairs ps) done (images_onto ps done)
  own-entries no_pairs done g d le = EncodesEntries.no_entry d done
  own-entries (pair k v ps) done g d le =
      let f = pair-good k v ps g in
      subst (λ n. EncodesEntries d n (encoding k ++ (encoding v ++ encoding_pairs ps)) done (images_onto ps (insert_tree done (image k) (image v)))) (suc-is (pair_count ps))
      (EncodesEntries.entry d (pair_count ps) (encoding k) (encoding v) (encoding_pairs ps) (image k) (image v) done (images_onto ps (insert_tree done (image k) (image v)))
      (own-encoding k f.0 d (omega arith)) (own-encoding v f.1 d (omega arith)) (own-entries ps (insert_tree done (image k) (image v)) f.2 d (omega arith)))
