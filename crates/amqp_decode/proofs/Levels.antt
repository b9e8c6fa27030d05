-- One level of an encoded value.
use Rattle.std.proofs.Common.{◌≡◌, ℕ, zero, suc, ◌-◌, List, [], ◌∷◌, Option, Some, None, refl, sym, ap, ◌∙◌, subst, arith, false, ◌==◌}
use Rattle.std.proofs.lemmas.Grind.{common_steps}
use Rattle.amqp_data.specs.FormatCode.{code_of}
use Rattle.amqp_data.specs.declared.format_code.EncodingCodes.{EncodingCodes}
use Rattle.amqp_data.specs.declared.format_code.EncodingCodes.TheVariants as code
use Rattle.amqp_frame.specs.Code.{category}
use Rattle.amqp_ser.specs.Tree as tree
use Rattle.amqp_ser.specs.Tree.{Tree, Descriptor}
use Rattle.amqp_decode.specs.Codes.{primitive_of}
use Rattle.amqp_decode.specs.Scalars.{and_then}
use Rattle.amqp_decode.specs.Parsed.{ValueReader, ContentReader, content_at, content_of, descriptor_at, parse_described, value_in_bytes, payload_in, with_rest, parse, parse_content}
use Rattle.amqp_decode.proofs.Steps.{not-zero}

abbrev given : {A : Type 0} → A → Option A → A
given x None = x
given x (Some a) = a

pub some_same : {A : Type 0} (a b : A) → Some a ≡ Some b → a ≡ b
some_same a b e = ap (given a) e

pub both : {A B : Type 0} (o : Option A) (f : A → Option B) (b : B) → and_then o f ≡ Some b → (a : A) × (o ≡ Some a) × (f a ≡ Some b)
both None f b e = absurd cc
both (Some a) f b e = (a, refl, e)

module _ (f : ValueReader) (h : ContentReader) where
  own_code : (c : ℕ) (s : List ℕ) → (c ≡ 0 → ⊥) → value_in_bytes f h (c ∷ s) ≡ and_then (primitive_of c) (λ code. payload_in (content_of f h) code s)
  own_code c s some = rw (not-zero c some) refl

  pub level_in : (c : ℕ) (s : List ℕ) (t : Tree) (r : List ℕ) → (c ≡ 0 → ⊥) → value_in_bytes f h (c ∷ s) ≡ Some (t, r)
      → (code : EncodingCodes) × (primitive_of c ≡ Some code)
      × (content : List ℕ) × (content_at (category (code_of code)) s ≡ Some (content, r)) × (content_of f h code content ≡ Some t)
  level_in c s t r some e =
      let a = both (primitive_of c) (λ code. payload_in (content_of f h) code s) (t, r) (sym (own_code c s some) ∙ e) in
      let b = both (content_at (category (code_of a.0)) s) (λ p. and_then (content_of f h a.0 p.0) (with_rest p.1)) (t, r) a.2 in
      let k = both (content_of f h a.0 b.0.0) (with_rest b.0.1) (t, r) b.2 in
      let same = some_same {A = Tree × List ℕ} (k.0, b.0.1) (t, r) k.2 in
      (a.0, a.1, b.0.0, subst (λ z. content_at (category (code_of a.0)) s ≡ Some (b.0.0, z)) (ap (λ z. z.1) same) b.1, k.1 ∙ ap Some (ap (λ z. z.0) same))

  pub described_in : (s : List ℕ) (t : Tree) (r : List ℕ) → value_in_bytes f h (0 ∷ s) ≡ Some (t, r)
      → (e : Descriptor) × (a : List ℕ) × (u : Tree) × (descriptor_at s ≡ Some (e, a)) × (f a ≡ Some (u, r)) × (t ≡ tree.described e u)
  described_in s t r e =
      let a = both (descriptor_at s) (parse_described f) (t, r) e in
      let b = both (f a.0.1) (λ q. Some (tree.described a.0.0 q.0, q.1)) (t, r) a.2 in
      let same = some_same {A = Tree × List ℕ} (tree.described a.0.0 b.0.0, b.0.1) (t, r) b.2 in
      (a.0.0, a.0.1, b.0.0, a.1, subst (λ z. f a.0.1 ≡ Some (b.0.0, z)) (ap (λ z. z.1) same) b.1, sym (ap (λ z. z.0) same))

pub parse_value : (d : ℕ) (s : List ℕ) → parse (suc d) s ≡ value_in_bytes (parse d) (parse_content d) s
unfolding parse
parse_value d s = refl
