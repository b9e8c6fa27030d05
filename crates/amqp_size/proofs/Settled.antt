-- After a value is measured, the position is not after a descriptor: no length is stored next to
-- it.
use Rattle.std.proofs.Common.{◌≡◌, ℕ, ◌+◌, ◌<◌, Option, Some, None, Bool, true, false, Ok, refl, ap, ◌∙◌}
use Rattle.amqp_ser.specs.Tree.{Tree}
use Rattle.amqp_ser.specs.Encoding.{constructor}
use Rattle.amqp_size.specs.Position.{base_position, element, next}
use Rattle.amqp_size.specs.SizeSerializer.{AtPosition}
use Rattle.amqp_size.specs.State.{position_at, context_at}
use Rattle.amqp_size.specs.WholePosition.{Position}
use Rattle.amqp_size.specs.WholePosition as position
use Rattle.amqp_size.specs.WholeContext.{Context}
use Rattle.amqp_size.specs.WholeContext as context
use Rattle.amqp_size.specs.declared.position.BasePosition.{BasePosition}
use Rattle.amqp_size.specs.declared.position.BasePosition.TheVariants as base
use Rattle.amqp_size.specs.declared.position.Position.{Position as KeptPosition}
use Rattle.amqp_size.specs.declared.position.Position.TheVariants as kept
use Rattle.amqp_size.specs.declared.context.Context.{Context as KeptContext}
use Rattle.amqp_size.specs.declared.context.Context.TheVariants as kept_context

abbrev is_alone : Position → Bool
is_alone (position.Value h b) = false
is_alone p = true

abbrev alone : Context → Bool
alone (context.Unmarked p) = is_alone p
alone u = false

stand_alone : (b : BasePosition) → is_alone (base_position b) ≡ true
stand_alone base.Root = refl
stand_alone base.InCompound = refl
stand_alone base.FirstElement = refl
stand_alone (base.OtherElement c) = refl

element_alone : (o : Option ℕ) → is_alone (element o) ≡ true
element_alone None = refl
element_alone (Some c) = refl

next_alone : (p : Position) (t : Tree) → is_alone (next p t) ≡ true
next_alone position.Root t = refl
next_alone position.InCompound t = refl
next_alone position.FirstElement t = element_alone (constructor t)
next_alone (position.OtherElement c) t = refl
next_alone position.Descriptor t = refl
next_alone (position.Value h b) t = stand_alone b

same_position : (p : KeptPosition) (h k : ℕ) → is_alone (position_at p h) ≡ true → position_at p k ≡ position_at p h
same_position kept.Root h k e = refl
same_position kept.InCompound h k e = refl
same_position kept.FirstElement h k e = refl
same_position (kept.OtherElement c) h k e = refl
same_position kept.Descriptor h k e = refl
same_position (kept.Value b) h k e = cc

same_context : (u : KeptContext) (h k : ℕ) → alone (context_at u h) ≡ true → context_at u k ≡ context_at u h
same_context (kept_context.Unmarked p) h k e = ap context.Unmarked (same_position p h k e)
same_context (kept_context.Array p) h k e = cc
same_context (kept_context.Transparent p) h k e = cc
same_context (kept_context.Scalar m p) h k e = cc
same_context (kept_context.Nothing p) h k e = cc

-- Therefore another length next to the position changes nothing.
pub settled : (p : Position) (o : Option Tree) (n : ℕ) (u : KeptContext) (h k : ℕ) → AtPosition p o (Ok n) (context_at u h) → context_at u k ≡ context_at u h
settled p None n u h k c = absurd c
settled p (Some t) n u h k c = same_context u h k (ap alone c.position ∙ next_alone p t)
