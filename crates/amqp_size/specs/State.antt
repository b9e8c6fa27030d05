-- Positions as they are stored, in single bytes, with the length of descriptors next to them.
use Rattle.std.specs.Prelude.{ℕ}
use Rattle.amqp_size.specs.declared.position.Position.{Position as KeptPosition}
use Rattle.amqp_size.specs.declared.position.Position.TheVariants as kept
use Rattle.amqp_size.specs.declared.context.Context.{Context as KeptContext}
use Rattle.amqp_size.specs.declared.context.Context.TheVariants as kept_context
use Rattle.amqp_size.specs.declared.resolved_kind.ResolvedKind.{ResolvedKind}
use Rattle.amqp_size.specs.WholePosition.{Position, Root, InCompound, FirstElement, OtherElement, Descriptor, Value}
use Rattle.amqp_size.specs.WholeContext.{Context, Unmarked, Array, Transparent, Scalar, Nothing}

-- The position after `h` bytes of descriptors, if it is after descriptors.
abbrev pub position_at : KeptPosition → ℕ → Position
position_at kept.Root h = Root
position_at kept.InCompound h = InCompound
position_at kept.FirstElement h = FirstElement
position_at (kept.OtherElement c) h = OtherElement c
position_at kept.Descriptor h = Descriptor
position_at (kept.Value b) h = Value h b

abbrev pub context_at : KeptContext → ℕ → Context
context_at (kept_context.Unmarked p) h = Unmarked (position_at p h)
context_at (kept_context.Array p) h = Array (position_at p h)
context_at (kept_context.Transparent p) h = Transparent (position_at p h)
context_at (kept_context.Scalar p m) h = Scalar m (position_at p h)
context_at (kept_context.Nothing p) h = Nothing (position_at p h)

-- A serializer: the position of the next value.
pub record SizeState : Type 0 where
  pub context : Context

-- An open compound: its position, its kind, the position of the next part, the length of the
-- descriptors before the value (if one of the two positions is after descriptors), and the sizes
-- and the count of its parts.
pub record OpenState : Type 0 where
  pub position : Position
  pub resolved_kind : ResolvedKind
  pub inner_context : Context
  pub prefix_len : ℕ
  pub sum : ℕ
  pub before_last : ℕ
  pub count : ℕ
