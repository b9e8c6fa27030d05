-- The array elements without bytes in an encoded value: a scalar has none.
use Rattle.std.proofs.Common.{◌≡◌, ℕ, zero, suc, ◌/◌, ◌%◌, Bool, true, false, List, [], ◌∷◌, Option, Some, None, refl, sym, ap, ◌∙◌, if◌then◌else◌, ◌==◌}
use Rattle.amqp_data.specs.FormatCode.{code_of}
use Rattle.amqp_data.specs.declared.format_code.EncodingCodes.{EncodingCodes}
use Rattle.amqp_frame.specs.Code.{category}
use Rattle.amqp_ser.specs.Tree as tree
use Rattle.amqp_ser.specs.Tree.{Tree, Scalar, Descriptor, Pairs, scalar, described, trees_of, no_pairs}
use Rattle.amqp_decode.specs.Codes.{primitive_of, shape_of_code}
use Rattle.amqp_decode.specs.Parsed.{ValueReader, ContentReader, all, content_at, content_in, content_of, counted_in, descriptor_at, value_in_bytes, gather, insert, items_in, parse, parse_array, parse_content, parse_described, parse_list, parse_map, payload_in, with_rest}
use Rattle.amqp_decode.specs.Scalars.{and_then}
use Rattle.amqp_decode.specs.WithoutBytes.{Counter, ContentCounter, if_read, in_payload, in_shape, in_content, counted_in_value, elements_without_bytes, content_without_bytes}
use Rattle.amqp_decode.specs.declared.payload.PayloadShape.{PayloadShape}
use Rattle.amqp_decode.specs.declared.payload.PayloadShape.TheVariants as shape
use Rattle.amqp_decode.proofs.Levels.{both, parse_value, some_same}

no_map : (b : Bool) (o : Option Pairs) (x : Scalar) → (if b then and_then o (λ ps. Some (tree.map ps)) else None) ≡ Some (scalar x) → ⊥
no_map true None x e = absurd cc
no_map true (Some ps) x e = absurd cc
no_map false o x e = absurd cc

module _ (c : Counter) (f : ValueReader) (k : ContentCounter) (h : ContentReader) where
  scalar_shape : (p : PayloadShape) (code : EncodingCodes) (s : List ℕ) (x : Scalar) → content_in f h p code s ≡ Some (scalar x) → in_shape c f k h p s ≡ 0
  scalar_shape shape.Described code s x e = refl
  scalar_shape shape.Scalar code s x e = refl
  scalar_shape (shape.List count) code s x e =
      let p = both (counted_in count s) (parse_list f) (scalar x) e in
      let ts = both (and_then (gather f p.0.0 p.0.1 []) all) (λ us. Some (tree.list (trees_of us))) (scalar x) p.2 in
      let no : Some (tree.list (trees_of ts.0)) ≡ Some (scalar x) = ts.2 in
      absurd cc
  scalar_shape (shape.Map count) code s x e =
      let p = both (counted_in count s) (parse_map f) (scalar x) e in
      absurd (no_map (p.0.0 % 2 == 0) (and_then (insert f (p.0.0 / 2) p.0.1 no_pairs) all) x p.2)
  scalar_shape (shape.Array count) code s x e =
      let p = both (counted_in count s) (parse_array h) (scalar x) e in
      let ts = both (items_in h p.0.0 p.0.1) (λ us. Some (tree.array (trees_of us))) (scalar x) p.2 in
      let no : Some (tree.array (trees_of ts.0)) ≡ Some (scalar x) = ts.2 in
      absurd cc

  module _ (s r : List ℕ) (x : Scalar) where
    by_content : (code : EncodingCodes) (o : Option (List ℕ × List ℕ)) → and_then o (λ p. and_then (content_of f h code p.0) (with_rest p.1)) ≡ Some (scalar x, r)
        → if_read o (λ p. in_content c f k h code p.0) ≡ 0
    by_content code None e = refl
    by_content code (Some p) e =
        let t = both (content_of f h code p.0) (with_rest p.1) (scalar x, r) e in
        let same = some_same {A = Tree × List ℕ} (t.0, p.1) (scalar x, r) t.2 in
        scalar_shape (shape_of_code code) code p.0 x (t.1 ∙ ap Some (ap (λ z. z.0) same))

    by_code : (o : Option EncodingCodes) → and_then o (λ code. payload_in (content_of f h) code s) ≡ Some (scalar x, r)
        → if_read o (λ code. in_payload (in_content c f k h) code s) ≡ 0
    by_code None e = refl
    by_code (Some code) e = by_content code (content_at (category (code_of code)) s) e

    by_descriptor : (o : Option (Descriptor × List ℕ)) → and_then o (parse_described f) ≡ Some (scalar x, r) → if_read o (λ d. c d.1) ≡ 0
    by_descriptor None e = refl
    by_descriptor (Some d) e =
        let q = both (f d.1) (λ z. Some (described d.0 z.0, z.1)) (scalar x, r) e in
        let same = some_same {A = Tree × List ℕ} (described d.0 q.0.0, q.0.1) (scalar x, r) q.2 in
        let no : described d.0 q.0.0 ≡ scalar x = ap (λ z. z.0) same in
        absurd cc

    by_test : (b : ℕ) (z : Bool)
        → (if z then and_then (descriptor_at s) (parse_described f) else and_then (primitive_of b) (λ code. payload_in (content_of f h) code s)) ≡ Some (scalar x, r)
        → (if z then if_read (descriptor_at s) (λ d. c d.1) else if_read (primitive_of b) (λ code. in_payload (in_content c f k h) code s)) ≡ 0
    by_test b true e = by_descriptor (descriptor_at s) e
    by_test b false e = by_code (primitive_of b) e

  scalar_is_encoded : (s r : List ℕ) (x : Scalar) → value_in_bytes f h s ≡ Some (scalar x, r) → counted_in_value c f k h s ≡ 0
  scalar_is_encoded [] r x e = refl
  scalar_is_encoded (b ∷ s) r x e = by_test s r x b (b == 0) e

-- The number in a value, with one level more.
pub count_value : (d : ℕ) (s : List ℕ) → elements_without_bytes (suc d) s ≡ counted_in_value (elements_without_bytes d) (parse d) (content_without_bytes d) (parse_content d) s
unfolding elements_without_bytes content_without_bytes
count_value d s = refl

pub scalar_none : (d : ℕ) (s r : List ℕ) (x : Scalar) → parse (suc d) s ≡ Some (scalar x, r) → elements_without_bytes (suc d) s ≡ 0
scalar_none d s r x e =
    count_value d s ∙ scalar_is_encoded (elements_without_bytes d) (parse d) (content_without_bytes d) (parse_content d) s r x (sym (parse_value d s) ∙ e)
