-- The relation permits every tree that the function finds.
use Rattle.std.proofs.Common.{◌≡◌, ℕ, zero, suc, ◌*◌, ◌/◌, ◌%◌, ◌≤◌, Bool, true, false, IsTrue, List, [], ◌∷◌, ◌++◌, length, take, drop, Option, Some, None, refl, sym, ap, ◌∙◌, subst, append_assoc, arith, length-take, if◌then◌else◌, ◌==◌, nat_le}
use Rattle.std.proofs.lemmas.List.{append-nil, take-append-drop}
use Rattle.std.proofs.lemmas.Bool.{leb-true}
use Rattle.std.specs.Int.{from_be_bytes, w32}
use Rattle.amqp_data.specs.FormatCode.{code_of}
use Rattle.amqp_data.specs.declared.format_code.EncodingCodes.{EncodingCodes}
use Rattle.amqp_frame.specs.Code.{category}
use Rattle.amqp_frame.specs.declared.code.Category.{Category}
use Rattle.amqp_frame.specs.declared.code.Category.TheVariants.{Fixed, OneByteSize, FourByteSize}
use Rattle.amqp_ser.specs.Tree as tree
use Rattle.amqp_ser.specs.Tree.{Scalar, Descriptor, Tree, Pairs, trees_of, no_pairs}
use Rattle.amqp_value.specs.Image.{insert_tree}
use Rattle.amqp_value.proofs.SameLemmas.{numbers}
use Rattle.amqp_decode.specs.Codes.{is_primitive, primitive_of, shape_of_code}
use Rattle.amqp_decode.specs.Scalars.{and_then, scalar_in, scalar_tree}
use Rattle.amqp_decode.specs.Encodes.{IsNumber, IsPayload, IsCounted, IsDescriptor, descriptor_scalar, Encodes, EncodesContent, EncodesElements, EncodesItems, EncodesEntries}
use Rattle.amqp_decode.specs.Parsed.{ValueReader, ContentReader, cut, number_at, sized_at, content_at, counted_in, tree_descriptor, parsed_descriptor, descriptor_at, gather, insert, all, parse_list, parse_map, items_in, parse_array, payload_in, with_rest, content_in, content_of, parse_described, value_in_bytes, parse, parse_content}
use Rattle.amqp_decode.specs.declared.payload.Count.{Count}
use Rattle.amqp_decode.specs.declared.payload.Count.TheVariants.{Absent, OneByte, FourBytes}
use Rattle.amqp_decode.specs.declared.payload.PayloadShape.{PayloadShape}
use Rattle.amqp_decode.specs.declared.payload.PayloadShape.TheVariants as shape
use Rattle.amqp_decode.proofs.CodeLemmas.{primitive-says}

-- The bytes before the rest encode the result, if there is one.
abbrev pub Says : {A : Type 0} → (List ℕ → A → Type 0) → List ℕ → Option (A × List ℕ) → Type 0
Says S s None = Unit {0}
Says S s (Some r) = (a : List ℕ) × (s ≡ a ++ r.1) × S a r.0

-- The property holds for the result, if there is one.
abbrev pub IfFound : {A : Type 0} → (A → Type 0) → Option A → Type 0
IfFound P None = Unit {0}
IfFound P (Some a) = P a

pub pick : {A : Type 0} (P : A → Type 0) (b : Bool) (x y : A) → (b ≡ true → P x) → (b ≡ false → P y) → P (if b then x else y)
pick P true x y hit miss = hit refl
pick P false x y hit miss = miss refl

module _ {A B : Type 0} (S : List ℕ → A → Type 0) (T : List ℕ → B → Type 0) where
  pub says-and_then : (s : List ℕ) (o : Option (A × List ℕ)) (f : A × List ℕ → Option (B × List ℕ)) → Says S s o
      → ((r : A × List ℕ) (a : List ℕ) → s ≡ a ++ r.1 → S a r.0 → Says T s (f r)) → Says T s (and_then o f)
  says-and_then s None f h k = tt
  says-and_then s (Some r) f h k = k r h.0 h.1 h.2

-- A first step that is a test.
pub and_then-says : {A B : Type 0} (P : Option B → Type 0) (o : Option A) (f : A → Option B) → P None → ((a : A) → o ≡ Some a → P (f a)) → P (and_then o f)
and_then-says P None f none some = none
and_then-says P (Some a) f none some = some a refl

pub found-and_then : {A : Type 0} (P : A → Type 0) (o : Option A) → IfFound P o → (a : A) → o ≡ Some a → P a
found-and_then P None h a e = absurd cc
found-and_then P (Some x) h a e =
    let same : x ≡ a = cc in
    subst P same h

module _ {A : Type 0} (S T : List ℕ → A → Type 0) where
  -- More bytes before the bytes that are read.
  pub says-under : (s a rest : List ℕ) (o : Option (A × List ℕ)) → s ≡ a ++ rest → Says S rest o → ((b : List ℕ) (x : A) → S b x → T (a ++ b) x) → Says T s o
  says-under s a rest None e h k = tt
  says-under s a rest (Some r) e h k = (a ++ h.0, (e ∙ ap (λ z. a ++ z) h.1 ∙ sym (append_assoc a h.0 r.1)), k h.0 r.0 h.2)

-- One byte before the bytes that are read.
pub optionally_described : {A : Type 0} (S : List ℕ → A → Type 0) (c : ℕ) (s : List ℕ) (o : Option (A × List ℕ)) → Says (λ b t. S (c ∷ b) t) s o → Says S (c ∷ s) o
optionally_described S c s None h = tt
optionally_described S c s (Some r) h = (c ∷ h.0, ap (λ z. c ∷ z) h.1, h.2)

abbrev Exact : ℕ → List ℕ → List ℕ → Type 0
Exact n a x = (a ≡ x) × (length x ≡ n)

cut-says : (n : ℕ) (s : List ℕ) → Says (Exact n) s (cut n s)
cut-says n s =
    pick (Says (Exact n) s) (nat_le n (length s)) (Some (take n s, drop n s)) None
    (λ e. let fits : n ≤ length s = leb-true _ _ e in
    let len : length (take n s) ≡ n = omega (arith, length-take n s) in
    (take n s, sym (take-append-drop n s), (refl, len)))
    (λ e. tt)

abbrev IsDigits : Bool → List ℕ → ℕ → Type 0
IsDigits false a n = a ≡ n ∷ []
IsDigits true a n = IsNumber a n

pub is_number : (b : List ℕ) → length b ≡ 4 → IsNumber b (from_be_bytes w32 b)
is_number [] e = absurd (omega arith)
is_number (a ∷ []) e = absurd (omega arith)
is_number (a ∷ b ∷ []) e = absurd (omega arith)
is_number (a ∷ b ∷ c ∷ []) e = absurd (omega arith)
is_number (a ∷ b ∷ c ∷ d ∷ []) e = IsNumber.four_bytes a b c d
is_number (a ∷ b ∷ c ∷ d ∷ x ∷ xs) e = absurd (omega arith)

number-says : (wide : Bool) (s : List ℕ) → Says (IsDigits wide) s (number_at wide s)
number-says false [] = tt
number-says false (b ∷ s) = (b ∷ [], refl, refl)
number-says true s =
    says-and_then (Exact 4) (IsDigits true) s (cut 4 s) (λ p. Some (from_be_bytes w32 p.0, p.1)) (cut-says 4 s)
    (λ p a e h. (p.0, (e ∙ ap (λ z. z ++ p.1) h.0), is_number p.0 h.1))

abbrev IsSized : Bool → List ℕ → List ℕ → Type 0
IsSized wide a body = (size : List ℕ) × (a ≡ size ++ body) × IsDigits wide size (length body)

sized-says : (wide : Bool) (s : List ℕ) → Says (IsSized wide) s (sized_at wide s)
unfolding sized_at
sized-says wide s =
    says-and_then (IsDigits wide) (IsSized wide) s (number_at wide s) (λ n. cut n.0 n.1) (number-says wide s)
    (λ n a e digits. says-under (Exact n.0) (IsSized wide) s a n.1 (cut n.0 n.1) e (cut-says n.0 n.1)
    (λ b x h. (a, ap (λ z. a ++ z) h.0, subst (IsDigits wide a) (sym h.1) digits)))

says-as : {A : Type 0} (S T : List ℕ → A → Type 0) (s : List ℕ) (o : Option (A × List ℕ)) → Says S s o → ((a : List ℕ) (x : A) → S a x → T a x) → Says T s o
says-as S T s None h k = tt
says-as S T s (Some r) h k = (h.0, h.1, k h.0 r.0 h.2)

pub payload-says : (k : Category) (s : List ℕ) → Says (IsPayload k) s (content_at k s)
payload-says (Fixed n) s =
    says-as (Exact n) (IsPayload (Fixed n)) s (cut n s) (cut-says n s)
    (λ a x h. subst (λ m. IsPayload (Fixed m) a x) h.1 (subst (λ z. IsPayload (Fixed (length x)) z x) (sym h.0) (IsPayload.of_width x)))
payload-says OneByteSize s =
    says-as (IsSized false) (IsPayload OneByteSize) s (sized_at false s) (sized-says false s)
    (λ a x h. subst (λ z. IsPayload OneByteSize z x) (sym (h.1 ∙ ap (λ z. z ++ x) h.2)) (IsPayload.of_one_byte x))
payload-says FourByteSize s =
    says-as (IsSized true) (IsPayload FourByteSize) s (sized_at true s) (sized-says true s)
    (λ a x h. subst (λ z. IsPayload FourByteSize z x) (sym h.1) (IsPayload.of_four_bytes h.0 x h.2))

number-counts : (s : List ℕ) (n : ℕ) (body : List ℕ) (o : Option (ℕ × List ℕ)) → Says (IsDigits true) s o → o ≡ Some (n, body) → IsCounted FourBytes s n body
number-counts s n body None h e = absurd cc
number-counts s n body (Some r) h e =
    let same : r ≡ (n, body) = cc in
    let whole : s ≡ h.0 ++ body = h.1 ∙ ap (λ z. h.0 ++ z.1) same in
    subst (λ z. IsCounted FourBytes z n body) (sym whole) (IsCounted.in_four_bytes h.0 n body (subst (λ z. IsNumber h.0 z.0) same h.2))

pub counted-says : (k : Count) (s : List ℕ) (p : ℕ × List ℕ) → counted_in k s ≡ Some p → IsCounted k s p.0 p.1
unfolding counted_in
counted-says Absent s p e =
    let same : (0, s) ≡ p = cc in
    subst (λ z. IsCounted Absent s z.0 z.1) same (IsCounted.in_none s)
counted-says OneByte [] p e = absurd cc
counted-says OneByte (b ∷ s) p e =
    let same : (b, s) ≡ p = cc in
    subst (λ z. IsCounted OneByte (b ∷ s) z.0 z.1) same (IsCounted.in_one_byte b s)
counted-says FourBytes s p e = number-counts s p.0 p.1 (number_at true s) (number-says true s) e

descriptor-from : (o : Option Scalar) (d : Descriptor) → and_then (and_then o scalar_tree) tree_descriptor ≡ Some d → o ≡ Some (descriptor_scalar d)
descriptor-from None d e = absurd cc
descriptor-from (Some (tree.ulong n)) d e =
    let same : tree.code n ≡ d = cc in
    ap (λ z. Some (descriptor_scalar z)) same
descriptor-from (Some (tree.symbol bs)) d e =
    let same : tree.name bs ≡ d = cc in
    ap (λ z. Some (descriptor_scalar z)) same
descriptor-from (Some tree.null) d e = absurd cc
descriptor-from (Some (tree.bool b)) d e = absurd cc
descriptor-from (Some (tree.ubyte n)) d e = absurd cc
descriptor-from (Some (tree.ushort n)) d e = absurd cc
descriptor-from (Some (tree.uint n)) d e = absurd cc
descriptor-from (Some (tree.byte z)) d e = absurd cc
descriptor-from (Some (tree.short z)) d e = absurd cc
descriptor-from (Some (tree.int z)) d e = absurd cc
descriptor-from (Some (tree.long z)) d e = absurd cc
descriptor-from (Some (tree.float n)) d e = absurd cc
descriptor-from (Some (tree.double n)) d e = absurd cc
descriptor-from (Some (tree.decimal32 bs)) d e = absurd cc
descriptor-from (Some (tree.decimal64 bs)) d e = absurd cc
descriptor-from (Some (tree.decimal128 bs)) d e = absurd cc
descriptor-from (Some (tree.char c)) d e = absurd cc
descriptor-from (Some (tree.timestamp z)) d e = absurd cc
descriptor-from (Some (tree.uuid bs)) d e = absurd cc
descriptor-from (Some (tree.binary bs)) d e = absurd cc
descriptor-from (Some (tree.string bs)) d e = absurd cc

-- A first byte that has this primitive code.
under-code : {A : Type 0} (S : List ℕ → A → Type 0) (byte : ℕ) (c : EncodingCodes) (s : List ℕ) (o : Option (A × List ℕ)) → code_of c ≡ byte
    → Says (λ b t. S (code_of c ∷ b) t) s o → Says S (byte ∷ s) o
under-code S byte c s o is h = subst (λ z. Says S (z ∷ s) o) is (optionally_described S (code_of c) s o h)

pub descriptor-says : (s : List ℕ) → Says IsDescriptor s (descriptor_at s)
unfolding descriptor_at
descriptor-says [] = tt
descriptor-says (byte ∷ s) =
    and_then-says (Says IsDescriptor (byte ∷ s)) (primitive_of byte) (λ code. and_then (content_at (category (code_of code)) s) (parsed_descriptor code)) tt
    (λ c is. let named = primitive-says byte c is in
    under-code IsDescriptor byte c s _ named.0
    (says-and_then (IsPayload (category (code_of c))) (λ b d. IsDescriptor (code_of c ∷ b) d) s (content_at (category (code_of c)) s) (parsed_descriptor c) (payload-says (category (code_of c)) s)
    (λ p a e h. and_then-says (Says (λ b d. IsDescriptor (code_of c ∷ b) d) s) (and_then (and_then (scalar_in c p.0) scalar_tree) tree_descriptor) (λ d. Some (d, p.1)) tt
    (λ d found. (a, e, IsDescriptor.encoded c a p.0 d named.1 h (descriptor-from (scalar_in c p.0) d found))))))

-- A number of values that `f` reads, one after another.
module _ (f : ValueReader) (S : List ℕ → Tree → Type 0) (E : ℕ → List ℕ → List Tree → Type 0)
    (nil : E 0 [] []) (more : (n : ℕ) (a b : List ℕ) (t : Tree) (ts : List Tree) → S a t → E n b ts → E (suc n) (a ++ b) (t ∷ ts)) (sound : (s : List ℕ) → Says S s (f s)) where
  abbrev Gathers : ℕ → List Tree → List ℕ → List Tree → Type 0
  Gathers n done b us = (ts : List Tree) × (us ≡ done ++ ts) × E n b ts

  gather-says : (n : ℕ) (s : List ℕ) (done : List Tree) → Says (Gathers n done) s (gather f n s done)
  gather-says zero s done = ([], refl, ([], sym (append-nil done), nil))
  gather-says (suc n) s done =
      says-and_then S (Gathers (suc n) done) s (f s) (λ r. gather f n r.1 (done ++ r.0 ∷ [])) (sound s)
      (λ r a e h. says-under (Gathers n (done ++ r.0 ∷ [])) (Gathers (suc n) done) s a r.1 (gather f n r.1 (done ++ r.0 ∷ [])) e (gather-says n r.1 (done ++ r.0 ∷ []))
      (λ b us w. (r.0 ∷ w.0, w.1 ∙ append_assoc done (r.0 ∷ []) w.0, more n a b r.0 w.0 h w.2)))

  fills : (n : ℕ) (body : List ℕ) (o : Option (List Tree × List ℕ)) → Says (Gathers n []) body o → (ts : List Tree) → and_then o all ≡ Some ts → E n body ts
  fills n body None h ts found = absurd cc
  fills n body (Some (us, [])) h ts found =
      let whole : body ≡ h.0 = h.1 ∙ append-nil h.0 in
      let same : us ≡ ts = cc in
      subst (λ z. E n z ts) (sym whole) (subst (λ z. E n h.0 z) (sym h.2.1 ∙ same) h.2.2)
  fills n body (Some (us, x ∷ xs)) h ts found = absurd cc

  -- The values fill the body.
  pub gathered-says : (n : ℕ) (body : List ℕ) (ts : List Tree) → and_then (gather f n body []) all ≡ Some ts → E n body ts
  gathered-says n body ts found = fills n body (gather f n body []) (gather-says n body []) ts found

module _ (d : ℕ) (f : ValueReader) (sound : (s : List ℕ) → Says (Encodes d) s (f s)) where
  abbrev Inserts : ℕ → Pairs → List ℕ → Pairs → Type 0
  Inserts n done b ps = EncodesEntries d n b done ps

  -- A value after a key.
  abbrev AfterKey : Pairs → ℕ → Tree → List ℕ → Pairs → Type 0
  AfterKey done n k b ps = (v : Tree) × (prefix back : List ℕ) × (b ≡ prefix ++ back) × Encodes d prefix v × EncodesEntries d n back (insert_tree done k v) ps

  value-says : (n : ℕ) → ((s : List ℕ) (done : Pairs) → Says (Inserts n done) s (insert f n s done)) → (s : List ℕ) (done : Pairs) (k : Tree)
      → Says (AfterKey done n k) s (and_then (f s) (λ v. insert f n v.1 (insert_tree done k v.0)))
  value-says n rest s done k =
      says-and_then (Encodes d) (AfterKey done n k) s (f s) (λ v. insert f n v.1 (insert_tree done k v.0)) (sound s)
      (λ v a e sv. says-under (Inserts n (insert_tree done k v.0)) (AfterKey done n k) s a v.1 (insert f n v.1 (insert_tree done k v.0)) e (rest v.1 (insert_tree done k v.0))
      (λ b ps w. (v.0, a, b, refl, sv, w)))

  insert-says : (n : ℕ) (s : List ℕ) (done : Pairs) → Says (Inserts n done) s (insert f n s done)
  insert-says zero s done = ([], refl, EncodesEntries.no_entry d done)
  insert-says (suc n) s done =
      says-and_then (Encodes d) (Inserts (suc n) done) s (f s) (λ k. and_then (f k.1) (λ v. insert f n v.1 (insert_tree done k.0 v.0))) (sound s)
      (λ k a e sk. says-under (AfterKey done n k.0) (Inserts (suc n) done) s a k.1 (and_then (f k.1) (λ v. insert f n v.1 (insert_tree done k.0 v.0))) e (value-says n (insert-says n) k.1 done k.0)
      (λ b ps w. subst (λ z. EncodesEntries d (suc n) (a ++ z) done ps) (sym w.3) (EncodesEntries.entry d n a w.1 w.2 k.0 w.0 done ps sk w.4 w.5)))

  fills-map : (n : ℕ) (body : List ℕ) (o : Option (Pairs × List ℕ)) → Says (Inserts n no_pairs) body o → (ps : Pairs) → and_then o all ≡ Some ps → EncodesEntries d n body no_pairs ps
  fills-map n body None h ps found = absurd cc
  fills-map n body (Some (qs, [])) h ps found =
      let whole : body ≡ h.0 = h.1 ∙ append-nil h.0 in
      let same : qs ≡ ps = cc in
      subst (λ z. EncodesEntries d n z no_pairs ps) (sym whole) (subst (λ z. EncodesEntries d n h.0 no_pairs z) same h.2)
  fills-map n body (Some (qs, x ∷ xs)) h ps found = absurd cc

  -- The entries fill the body.
  pub inserted-says : (n : ℕ) (body : List ℕ) (ps : Pairs) → and_then (insert f n body no_pairs) all ≡ Some ps → EncodesEntries d n body no_pairs ps
  inserted-says n body ps found = fills-map n body (insert f n body no_pairs) (insert-says n body no_pairs) ps found

module _ (d : ℕ) (f : ValueReader) (h : ContentReader) (encoded_values : (s : List ℕ) → Says (Encodes d) s (f s)) (contents : (c : EncodingCodes) (s : List ℕ) → IfFound (EncodesContent d c s) (h c s)) where
  -- A payload whose content encodes the tree.
  abbrev IsItem : EncodingCodes → List ℕ → Tree → Type 0
  IsItem c a t = (content : List ℕ) × IsPayload (category (code_of c)) a content × EncodesContent d c content t

  item-says : (c : EncodingCodes) (s : List ℕ) → Says (IsItem c) s (payload_in h c s)
  item-says c s =
      says-and_then (IsPayload (category (code_of c))) (IsItem c) s (content_at (category (code_of c)) s) (λ p. and_then (h c p.0) (with_rest p.1)) (payload-says (category (code_of c)) s)
      (λ p a e is. and_then-says (Says (IsItem c) s) (h c p.0) (with_rest p.1) tt
      (λ t found. (a, e, (p.0, is, found-and_then (EncodesContent d c p.0) (h c p.0) (contents c p.0) t found))))

  items-say : (c : EncodingCodes) (n : ℕ) (items : List ℕ) (ts : List Tree) → and_then (gather (payload_in h c) n items []) all ≡ Some ts → EncodesItems d c n items ts
  items-say c = gathered-says (payload_in h c) (IsItem c) (EncodesItems d c) (EncodesItems.no_item d c)
      (λ n a b t ts w rest. EncodesItems.item d c n a w.0 b t ts w.1 w.2 rest) (item-says c)

  module _ (c : EncodingCodes) (s : List ℕ) where
    list-says : (count : Count) (p : ℕ × List ℕ) → shape_of_code c ≡ shape.List count → IsCounted count s p.0 p.1 → IfFound (EncodesContent (suc d) c s) (parse_list f p)
    list-says count p is counts =
        and_then-says (IfFound (EncodesContent (suc d) c s)) (and_then (gather f p.0 p.1 []) all) (λ ts. Some (tree.list (trees_of ts))) tt
        (λ ts found. EncodesContent.a_list d c count s p.0 p.1 ts is counts
        (gathered-says f (Encodes d) (EncodesElements d) (EncodesElements.no_element d) (EncodesElements.element d) encoded_values p.0 p.1 ts found))

    map-says : (count : Count) (p : ℕ × List ℕ) → shape_of_code c ≡ shape.Map count → IsCounted count s p.0 p.1 → IfFound (EncodesContent (suc d) c s) (parse_map f p)
    map-says count p is counts =
        pick (IfFound (EncodesContent (suc d) c s)) (p.0 % 2 == 0) (and_then (and_then (insert f (p.0 / 2) p.1 no_pairs) all) (λ ps. Some (tree.map ps))) None
        (λ even. and_then-says (IfFound (EncodesContent (suc d) c s)) (and_then (insert f (p.0 / 2) p.1 no_pairs) all) (λ ps. Some (tree.map ps)) tt
        (λ ps found. let two : p.0 ≡ 2 * (p.0 / 2) = omega (arith, numbers (p.0 % 2) 0 even) in
        EncodesContent.a_map d c count s (p.0 / 2) p.1 ps is (subst (λ z. IsCounted count s z p.1) two counts) (inserted-says d f encoded_values (p.0 / 2) p.1 ps found)))
        (λ _. tt)

    under-constructor : (count : Count) (n byte : ℕ) (items : List ℕ) → shape_of_code c ≡ shape.Array count → IsCounted count s n (byte ∷ items)
        → IfFound (λ ts. EncodesContent (suc d) c s (tree.array (trees_of ts))) (and_then (primitive_of byte) (λ code. and_then (gather (payload_in h code) n items []) all))
    under-constructor count n byte items is counts =
        and_then-says (IfFound (λ ts. EncodesContent (suc d) c s (tree.array (trees_of ts)))) (primitive_of byte) (λ code. and_then (gather (payload_in h code) n items []) all) tt
        (λ code found. let named = primitive-says byte code found in
        let begins = subst (λ z. IsCounted count s n (z ∷ items)) (sym named.0) counts in
        as_array code begins named.1 (and_then (gather (payload_in h code) n items []) all) refl)
      where
        as_array : (code : EncodingCodes) → IsCounted count s n (code_of code ∷ items) → IsTrue (is_primitive code)
            → (o : Option (List Tree)) → and_then (gather (payload_in h code) n items []) all ≡ o → IfFound (λ ts. EncodesContent (suc d) c s (tree.array (trees_of ts))) o
        as_array code begins ok None e = tt
        as_array code begins ok (Some ts) e = EncodesContent.an_array d c count s n code items ts is begins ok (items-say code n items ts e)

    array-items : (count : Count) (n : ℕ) (body : List ℕ) → shape_of_code c ≡ shape.Array count → IsCounted count s n body
        → IfFound (λ ts. EncodesContent (suc d) c s (tree.array (trees_of ts))) (items_in h n body)
    array-items count zero [] is counts = EncodesContent.a_bare_array d c count s is counts
    array-items count (suc n) [] is counts = tt
    array-items count n (byte ∷ items) is counts = under-constructor count n byte items is counts

    array-says : (count : Count) (p : ℕ × List ℕ) → shape_of_code c ≡ shape.Array count → IsCounted count s p.0 p.1 → IfFound (EncodesContent (suc d) c s) (parse_array h p)
    array-says count p is counts =
        and_then-says (IfFound (EncodesContent (suc d) c s)) (items_in h p.0 p.1) (λ ts. Some (tree.array (trees_of ts))) tt
        (λ ts found. found-and_then (λ us. EncodesContent (suc d) c s (tree.array (trees_of us))) (items_in h p.0 p.1) (array-items count p.0 p.1 is counts) ts found)

    by_shape : (k : PayloadShape) → shape_of_code c ≡ k → IfFound (EncodesContent (suc d) c s) (content_in f h k c s)
    by_shape shape.Described is = tt
    by_shape shape.Scalar is = and_then-says (IfFound (EncodesContent (suc d) c s)) (scalar_in c s) scalar_tree tt (λ k found. EncodesContent.a_scalar d c s k is found)
    by_shape (shape.List count) is = and_then-says (IfFound (EncodesContent (suc d) c s)) (counted_in count s) (parse_list f) tt (λ p found. list-says count p is (counted-says count s p found))
    by_shape (shape.Map count) is = and_then-says (IfFound (EncodesContent (suc d) c s)) (counted_in count s) (parse_map f) tt (λ p found. map-says count p is (counted-says count s p found))
    by_shape (shape.Array count) is = and_then-says (IfFound (EncodesContent (suc d) c s)) (counted_in count s) (parse_array h) tt (λ p found. array-says count p is (counted-says count s p found))

    pub content-says : IfFound (EncodesContent (suc d) c s) (content_of f h c s)
    content-says = by_shape (shape_of_code c) refl

  described-says : (s : List ℕ) → Says (λ b t. Encodes (suc d) (0 ∷ b) t) s (and_then (descriptor_at s) (parse_described f))
  described-says s =
      says-and_then IsDescriptor (λ b t. Encodes (suc d) (0 ∷ b) t) s (descriptor_at s) (parse_described f) (descriptor-says s)
      (λ l a e is. says-under (λ b t. (u : Tree) × (t ≡ tree.described l.0 u) × Encodes d b u) (λ b t. Encodes (suc d) (0 ∷ b) t) s a l.1 (parse_described f l) e
      (says-and_then (Encodes d) (λ b t. (u : Tree) × (t ≡ tree.described l.0 u) × Encodes d b u) l.1 (f l.1) (λ r. Some (tree.described l.0 r.0, r.1)) (encoded_values l.1)
      (λ r b eb sp. (b, eb, (r.0, refl, sp))))
      (λ b t w. subst (λ z. Encodes (suc d) (0 ∷ (a ++ b)) z) (sym w.1) (Encodes.described d a b l.0 w.0 is w.2)))

  primitive-encoded : (c : EncodingCodes) (s : List ℕ) → IsTrue (is_primitive c) → Says (λ b t. Encodes (suc d) (code_of c ∷ b) t) s (payload_in (content_of f h) c s)
  primitive-encoded c s ok =
      says-and_then (IsPayload (category (code_of c))) (λ b t. Encodes (suc d) (code_of c ∷ b) t) s (content_at (category (code_of c)) s) (λ p. and_then (content_of f h c p.0) (with_rest p.1)) (payload-says (category (code_of c)) s)
      (λ p a e is. and_then-says (Says (λ b t. Encodes (suc d) (code_of c ∷ b) t) s) (content_of f h c p.0) (with_rest p.1) tt
      (λ t found. (a, e, Encodes.primitive (suc d) c a p.0 t ok is (found-and_then (EncodesContent (suc d) c p.0) (content_of f h c p.0) (content-says c p.0) t found))))

  pub encoded-says : (s : List ℕ) → Says (Encodes (suc d)) s (value_in_bytes f h s)
  encoded-says [] = tt
  encoded-says (byte ∷ s) =
      pick (Says (Encodes (suc d)) (byte ∷ s)) (byte == 0) (and_then (descriptor_at s) (parse_described f)) (and_then (primitive_of byte) (λ code. payload_in (content_of f h) code s))
      (λ e. subst (λ k. Says (Encodes (suc d)) (k ∷ s) (and_then (descriptor_at s) (parse_described f))) (sym (numbers byte 0 e)) (optionally_described (Encodes (suc d)) 0 s _ (described-says s)))
      (λ _. and_then-says (Says (Encodes (suc d)) (byte ∷ s)) (primitive_of byte) (λ code. payload_in (content_of f h) code s) tt
      (λ c is. let named = primitive-says byte c is in
      under-code (Encodes (suc d)) byte c s _ named.0 (primitive-encoded c s named.1)))

mutual
  unfolding parse parse_content

  pub parse-says : (d : ℕ) (s : List ℕ) → Says (Encodes d) s (parse d s)
  parse-says zero s = tt
  parse-says (suc d) s = encoded-says d (parse d) (parse_content d) (parse-says d) (parse_content-says d) s

  parse_content-says : (d : ℕ) (c : EncodingCodes) (s : List ℕ) → IfFound (EncodesContent d c s) (parse_content d c s)
  parse_content-says zero c s = tt
  parse_content-says (suc d) c s = content-says d (parse d) (parse_content d) (parse-says d) (parse_content-says d) c s
