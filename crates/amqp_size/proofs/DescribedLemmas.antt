-- When a descriptor is too long.
use Rattle.std.proofs.Common.{◌≡◌, ℕ, ◌+◌, ◌<◌, Some, refl}
use Rattle.amqp_size.specs.declared.size_error.SizeError.TheVariants as error
use Rattle.amqp_size.specs.Position.{described_position, prefix_len_of}
use Rattle.amqp_size.specs.AddPart.{Undescribed}
use Rattle.amqp_size.specs.WholePosition.{Position}
use Rattle.amqp_size.specs.WholePosition as position
use Rattle.amqp_size.specs.WholeContext as context

-- A descriptor is too long for a value after it.
pub too_long : (p q : Position) (n : ℕ) → described_position p n ≡ Some q → 18446744073709551615 < prefix_len_of p + (n + 1) → Undescribed (context.Unmarked p) n error.TooLong
too_long position.Root q n d l = (refl, l)
too_long position.InCompound q n d l = (refl, l)
too_long position.FirstElement q n d l = (refl, l)
too_long (position.OtherElement c) q n d l = (refl, l)
too_long position.Descriptor q n d l = cc
too_long (position.Value h b) q n d l = (refl, l)
