-- The position of a value, with the length of the descriptors before it.
use Rattle.std.specs.Prelude.{ℕ}
use Rattle.amqp_size.specs.declared.position.BasePosition.{BasePosition}

pub data Position : Type 0 where
  Root : Position
  InCompound : Position
  FirstElement : Position
  OtherElement : ℕ → Position
  Descriptor : Position
  Value : ℕ → BasePosition → Position
