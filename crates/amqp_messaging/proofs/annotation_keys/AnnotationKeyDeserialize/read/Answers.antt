use Rattle.std.proofs.Common.{◌≡◌, ◌∙◌, refl, inl, inr}
use Rattle.amqp_data.specs.declared.descriptor.Descriptor.{Descriptor}
use Rattle.amqp_data.specs.declared.descriptor.Descriptor.TheVariants as descriptor
use Rattle.amqp_ser.specs.Carried.{descriptor_content}
use Rattle.amqp_ser.specs.Tree.{scalar}
use Rattle.amqp_decode.specs.Encodes.{descriptor_scalar}
use Rattle.amqp_messaging.specs.contracts.annotation_keys.AnnotationKeyDeserialize.TheImpl as own
use Rattle.amqp_messaging.specs.declared.identifiers.AnnotationKey.{AnnotationKey}
use Rattle.amqp_messaging.specs.declared.identifiers.AnnotationKey.TheVariants as variant
use Rattle.amqp_messaging.proofs.annotation_keys.AnnotationKeyDeserialize.read.Goals as goal

-- The descriptor with the scalar of a key.
descriptor_of : AnnotationKey → Descriptor
descriptor_of (variant.Symbol v) = descriptor.Name v
descriptor_of (variant.Ulong v) = descriptor.Code v

one_scalar : (x : AnnotationKey) → own.ghosts.image x ≡ scalar (descriptor_scalar (descriptor_content (descriptor_of x)))
unfolding descriptor_of
one_scalar (variant.Symbol v) = refl
one_scalar (variant.Ulong v) = refl

pub returns-in-Err-clause-read : goal.returns-in-Err-clause-read
returns-in-Err-clause-read g c = λ whole. elim (c.in-Err.ensures whole) [
  | inl memory ↦ inl memory
  | inr never ↦ inr (λ x is. never (descriptor_of x) (is ∙ one_scalar x))
]

pub returns-in-Err-clause-law : goal.returns-in-Err-clause-law
returns-in-Err-clause-law g c = λ x _ is whole. elim (c.in-Err.ensures whole) [
  | inl memory ↦ memory
  | inr never ↦ absurd (never (descriptor_of x) (is ∙ one_scalar x))
]
