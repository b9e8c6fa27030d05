-- Arrays with their format codes.
use Rattle.std.proofs.Common.{◌≡◌, ℕ, zero, suc, ◌+◌, ◌-◌, ◌/◌, ◌==◌, Bool, true, false, IsTrue, List, [], ◌∷◌, ◌++◌, Option, Some, None, refl, sym, ap, ◌∙◌, subst, arith}
use Rattle.std.specs.Int.{w64, from_be_bytes}
use Rattle.amqp_data.specs.FormatCode.{code_of}
use Rattle.amqp_data.specs.declared.format_code.EncodingCodes.{EncodingCodes}
use Rattle.amqp_data.specs.declared.format_code.EncodingCodes.TheVariants as code
use Rattle.amqp_frame.specs.Code.{category}
use Rattle.amqp_ser.specs.Tree as tree
use Rattle.amqp_ser.specs.Tree.{Tree, Scalar, Descriptor, trees_of, scalar}
use Rattle.amqp_decode.specs.Codes.{is_primitive, primitive_of, shape_of_code}
use Rattle.amqp_decode.specs.Scalars.{and_then, exact, scalar_in, scalar_tree}
use Rattle.amqp_decode.specs.Encodes.{IsPayload}
use Rattle.amqp_decode.specs.Parsed.{ValueReader, ContentReader, cut, content_at, sized_at, number_at, counted_in, gather, all, items_in, parse_array, payload_in, content_of, value_in_bytes, descriptor_at, parse_described, parsed_descriptor, tree_descriptor, parse, parse_content}
use Rattle.amqp_decode.specs.declared.payload.Count.{Count}
use Rattle.amqp_decode.specs.declared.payload.Count.TheVariants.{Absent, OneByte, FourBytes}
use Rattle.amqp_decode.specs.declared.payload.PayloadShape.TheVariants as shape
use Rattle.amqp_decode.proofs.CodeLemmas.{primitive-found, primitive-nonzero, primitive-says}
use Rattle.amqp_decode.proofs.Finds.{payload-found}
use Rattle.amqp_decode.specs.Prefix.{HasCountOfPayloads, IsArrayOf, IsDescribedBy, item_of}
use Rattle.amqp_decode.specs.WithoutBytes.{Counter, if_read, counted_in_value, in_payload, own_items, sum_of, elements_without_bytes, content_without_bytes}
use Rattle.amqp_decode.proofs.Levels.{parse_value, both, level_in}
use Rattle.amqp_decode.proofs.Gathers.{gather_same}
use Rattle.amqp_decode.proofs.Steps.{not-zero}

-- A payload of a primitive code is read as an encoded value is.
item_payload : (d c : ℕ) (k : EncodingCodes) (s : List ℕ) → (c ≡ 0 → ⊥) → primitive_of c ≡ Some k → item_of d c s ≡ payload_in (parse_content (suc d)) k s
unfolding parse
item_payload d c k s some is = rw (not-zero c some, is) refl

first_code : (d c n : ℕ) (s : List ℕ) (ts : List Tree) → (c ≡ 0 → ⊥) → (n ≡ 0 → ⊥) → gather (item_of d c) n s [] ≡ Some (ts, []) → (k : EncodingCodes) × (primitive_of c ≡ Some k)
first_code d c zero s ts some many e = absurd (many refl)
first_code d c (suc n) s ts some many e =
    let a = both (item_of d c s) (λ r. gather (item_of d c) n r.1 ([] ++ r.0 ∷ [])) (ts, []) e in
    let l = level_in (parse d) (parse_content d) c s a.0.0 a.0.1 some (sym (parse_value d (c ∷ s)) ∙ a.1) in
    (l.0, l.1)

items_found : (h : ContentReader) (n c : ℕ) (k : EncodingCodes) (s : List ℕ) (ts : List Tree) → primitive_of c ≡ Some k → gather (payload_in h k) n s [] ≡ Some (ts, [])
    → items_in h n (c ∷ s) ≡ Some ts
items_found h zero c k s ts is e = ap (λ o. and_then o (λ code. and_then (gather (payload_in h code) zero s []) all)) is ∙ ap (λ o. and_then o all) e
items_found h (suc n) c k s ts is e = ap (λ o. and_then o (λ code. and_then (gather (payload_in h code) (suc n) s []) all)) is ∙ ap (λ o. and_then o all) e

array_as_value : (code : EncodingCodes) (k : Count) (s content rest : List ℕ) (n c : ℕ) (payloads : List ℕ) → IsTrue (is_primitive code)
    → shape_of_code code ≡ shape.Array k → content_at (category (code_of code)) s ≡ Some (content, rest) → counted_in k content ≡ Some (n, c ∷ payloads)
    → (n ≡ 0 → ⊥) → (c ≡ 0 → ⊥) → IsArrayOf (code_of code ∷ s) rest n c payloads
array_as_value code k s content rest n c payloads ok is found counted many some depth ts e =
    let at = first_code depth c n payloads ts some many e in
    let inner : gather (payload_in (parse_content (suc depth)) at.0) n payloads [] ≡ Some (ts, []) =
    sym (gather_same (item_of depth c) (payload_in (parse_content (suc depth)) at.0) (λ z. item_payload depth c at.0 z some at.1) n payloads []) ∙ e in
    let items : items_in (parse_content (suc depth)) n (c ∷ payloads) ≡ Some ts = items_found (parse_content (suc depth)) n c at.0 payloads ts at.1 inner in
    let whole : value_in_bytes (parse (suc depth)) (parse_content (suc depth)) (code_of code ∷ s) ≡ Some (tree.array (trees_of ts), rest) =
    rw (primitive-nonzero code ok, primitive-found code ok, found, is, counted, items) refl in
    parse_value (suc depth) (code_of code ∷ s) ∙ whole

pub array_short : (s content rest : List ℕ) (n c : ℕ) (body payloads : List ℕ) → sized_at false s ≡ Some (content, rest) → number_at false content ≡ Some (n, body)
    → body ≡ c ∷ payloads → (n ≡ 0 → ⊥) → (c ≡ 0 → ⊥) → IsArrayOf (224 ∷ s) rest n c payloads
unfolding category counted_in
array_short s content rest n c body payloads found counted is many some =
    array_as_value code.Array8 OneByte s content rest n c payloads refl refl found (counted ∙ ap (λ z. Some (n, z)) is) many some

pub array_long : (s content rest : List ℕ) (n c : ℕ) (body payloads : List ℕ) → sized_at true s ≡ Some (content, rest) → number_at true content ≡ Some (n, body)
    → body ≡ c ∷ payloads → (n ≡ 0 → ⊥) → (c ≡ 0 → ⊥) → IsArrayOf (240 ∷ s) rest n c payloads
unfolding category counted_in
array_long s content rest n c body payloads found counted is many some =
    array_as_value code.Array32 FourBytes s content rest n c payloads refl refl found (counted ∙ ap (λ z. Some (n, z)) is) many some

-- The count of an array.
item_counted : (d c : ℕ) (k : EncodingCodes) (s : List ℕ) → (c ≡ 0 → ⊥) → primitive_of c ≡ Some k → in_payload (content_without_bytes (suc d)) k s ≡ elements_without_bytes (suc d) (c ∷ s)
unfolding elements_without_bytes content_without_bytes
item_counted d c k s some is = rw (not-zero c some, is) refl

sum_after : (a b : Counter) (f g : ValueReader) (n m : ℕ) → ((s : List ℕ) → sum_of a f n s ≡ sum_of b g n s) → (o : Option (Tree × List ℕ))
    → m + if_read o (λ r. sum_of a f n r.1) ≡ m + if_read o (λ r. sum_of b g n r.1)
sum_after a b f g n m same None = refl
sum_after a b f g n m same (Some r) = ap (λ z. m + z) (same r.1)

sum_same : (a b : Counter) (f g : ValueReader) → ((s : List ℕ) → a s ≡ b s) → ((s : List ℕ) → f s ≡ g s) → (n : ℕ) (s : List ℕ) → sum_of a f n s ≡ sum_of b g n s
sum_same a b f g counts reads zero s = refl
sum_same a b f g counts reads (suc n) s =
    ap (λ z. z + if_read (f s) (λ r. sum_of a f n r.1)) (counts s)
    ∙ ap (λ o. b s + if_read o (λ r. sum_of a f n r.1)) (reads s)
    ∙ sum_after a b f g n (b s) (sum_same a b f g counts reads n) (g s)

no_own : (k : EncodingCodes) (c n : ℕ) → code_of k ≡ c → (c / 16 == 4) ≡ false → own_items k n ≡ 0
no_own k c n is bytes =
    let test : (code_of k / 16 == 4) ≡ false = ap (λ z. z / 16 == 4) is ∙ bytes in
    rw test refl

pub count_at : (d : ℕ) (s : List ℕ) → elements_without_bytes (suc d) s ≡ counted_in_value (elements_without_bytes d) (parse d) (content_without_bytes d) (parse_content d) s
unfolding elements_without_bytes content_without_bytes
count_at d s = refl

array_counted : (code : EncodingCodes) (k : Count) (s content rest : List ℕ) (n c : ℕ) (payloads : List ℕ) → IsTrue (is_primitive code)
    → shape_of_code code ≡ shape.Array k → content_at (category (code_of code)) s ≡ Some (content, rest) → counted_in k content ≡ Some (n, c ∷ payloads)
    → (n ≡ 0 → ⊥) → (c ≡ 0 → ⊥) → (c / 16 == 4) ≡ false → HasCountOfPayloads (code_of code ∷ s) n c payloads
array_counted code k s content rest n c payloads ok is found counted many some bytes depth ts e =
    let at = first_code depth c n payloads ts some many e in
    let inside : counted_in_value (elements_without_bytes (suc depth)) (parse (suc depth)) (content_without_bytes (suc depth)) (parse_content (suc depth)) (code_of code ∷ s)
    ≡ own_items at.0 n + sum_of (in_payload (content_without_bytes (suc depth)) at.0) (payload_in (parse_content (suc depth)) at.0) n payloads =
    rw (primitive-nonzero code ok, primitive-found code ok, found, is, counted, at.1) refl in
    let own : own_items at.0 n ≡ 0 = no_own at.0 c n (primitive-says c at.0 at.1).0 bytes in
    let payloads_alone : counted_in_value (elements_without_bytes (suc depth)) (parse (suc depth)) (content_without_bytes (suc depth)) (parse_content (suc depth)) (code_of code ∷ s)
    ≡ sum_of (in_payload (content_without_bytes (suc depth)) at.0) (payload_in (parse_content (suc depth)) at.0) n payloads = omega (arith, inside, own) in
    count_at (suc depth) (code_of code ∷ s)
    ∙ payloads_alone
    ∙ sum_same (in_payload (content_without_bytes (suc depth)) at.0) (λ z. elements_without_bytes (suc depth) (c ∷ z)) (payload_in (parse_content (suc depth)) at.0) (item_of depth c)
    (λ z. item_counted depth c at.0 z some at.1) (λ z. sym (item_payload depth c at.0 z some at.1)) n payloads

pub array_count_short : (s content rest : List ℕ) (n c : ℕ) (body payloads : List ℕ) → sized_at false s ≡ Some (content, rest) → number_at false content ≡ Some (n, body)
    → body ≡ c ∷ payloads → (n ≡ 0 → ⊥) → (c ≡ 0 → ⊥) → (c / 16 == 4) ≡ false → HasCountOfPayloads (224 ∷ s) n c payloads
unfolding category counted_in
array_count_short s content rest n c body payloads found counted is many some bytes =
    array_counted code.Array8 OneByte s content rest n c payloads refl refl found (counted ∙ ap (λ z. Some (n, z)) is) many some bytes

pub array_count_long : (s content rest : List ℕ) (n c : ℕ) (body payloads : List ℕ) → sized_at true s ≡ Some (content, rest) → number_at true content ≡ Some (n, body)
    → body ≡ c ∷ payloads → (n ≡ 0 → ⊥) → (c ≡ 0 → ⊥) → (c / 16 == 4) ≡ false → HasCountOfPayloads (240 ∷ s) n c payloads
unfolding category counted_in
array_count_long s content rest n c body payloads found counted is many some bytes =
    array_counted code.Array32 FourBytes s content rest n c payloads refl refl found (counted ∙ ap (λ z. Some (n, z)) is) many some bytes
