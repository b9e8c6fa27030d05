-- What is read from a ulong or a symbol as a descriptor.
use Rattle.std.proofs.Common.{◌≡◌, inl, inr, Result, Ok, Err, refl, sym, ap, ◌∙◌}
use Rattle.amqp_ser.specs.Tree.{Tree, Descriptor, code, name, scalar}
use Rattle.amqp_decode.specs.Encodes.{descriptor_scalar}
use Rattle.amqp_de.specs.Reads.{Always, descriptor_tree}
use Rattle.amqp_de.specs.Results.{Takes, Brings}
use Rattle.amqp_de.specs.declared.fault.Fault.{Fault}

scalar_of : (d : Descriptor) → scalar (descriptor_scalar d) ≡ descriptor_tree d
scalar_of (code n) = refl
scalar_of (name s) = refl

told : (d e : Descriptor) → descriptor_tree d ≡ descriptor_tree e → d ≡ e
told (code m) (code n) p = let same : m ≡ n = cc in ap code same
told (code m) (name s) p = absurd cc
told (name s) (code n) p = absurd cc
told (name s) (name t) p = let same : s ≡ t = cc in ap name same

module _ {T R : Type 0} (content : T → Descriptor) (t : Tree) (whole : Type 0) (left : R → Type 0) where
  pub descriptor_taken : (r : Result (T × R) Fault) → Takes (λ u x. u ≡ scalar (descriptor_scalar (content x))) t whole left r
      → Takes (λ u x. u ≡ descriptor_tree (content x)) t whole left r
  descriptor_taken (Ok p) (is, rest) = (is ∙ scalar_of (content p.0), rest)
  descriptor_taken (Err e) h = λ w. elim (h w) [
    | inl m ↦ inl m
    | inr none ↦ inr (λ x is. none x (is ∙ sym (scalar_of (content x))))
  ]

  pub descriptor_brought : (r : Result (T × R) Fault) → Takes (λ u x. u ≡ scalar (descriptor_scalar (content x))) t whole left r
      → Brings (λ x. descriptor_tree (content x)) Always (λ x y. content x ≡ content y) t whole r
  descriptor_brought (Ok p) (is, rest) = λ x some e. told (content p.0) (content x) (sym (scalar_of (content p.0)) ∙ sym is ∙ e)
  descriptor_brought (Err f) h = λ x some e w. elim (h w) [
    | inl m ↦ m
    | inr none ↦ absurd (none x (e ∙ sym (scalar_of (content x))))
  ]
