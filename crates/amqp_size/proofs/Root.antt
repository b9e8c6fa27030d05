-- A serializer at the root.
use Rattle.std.proofs.Common.{◌≡◌, ℕ, Option, Some, None, ◌&&◌, Result, Ok, Err, subst}
use Rattle.amqp_size.specs.declared.size_error.SizeError.{SizeError}
use Rattle.amqp_size.specs.declared.size_error.SizeError.TheVariants as size_error
use Rattle.amqp_ser.specs.Tree.{Tree}
use Rattle.amqp_ser.specs.Writable.{uniform_arrays, within_limits, placed}
use Rattle.amqp_ser.specs.SizeAndBytes.{IsSizeOf}
use Rattle.amqp_ser.proofs.Bools.{both}
use Rattle.amqp_size.specs.Position.{position_of, meant}
use Rattle.amqp_size.specs.Refused.{told}
use Rattle.amqp_size.specs.SizeSerializer.{AtPosition, SizePermits}
use Rattle.amqp_size.specs.WholePosition.{Root}
use Rattle.amqp_size.specs.WholeContext.{Context}
use Rattle.amqp_size.specs.WholeContext.{Unmarked}
use Rattle.amqp_size.specs.declared.serializer.SizeSerializer.{SizeSerializer}

root_size : (o : Option Tree) (r : Result ℕ SizeError) (after : Context) → AtPosition Root o r after → IsSizeOf o (told r) × (after ≡ Unmarked Root)
root_size None (Ok n) after h = absurd h
root_size None (Err size_error.TooLong) after h = h
root_size None (Err size_error.InvalidValue) after h = h
root_size None (Err e) after h = absurd h.0
root_size (Some t) (Ok n) after h = ((both (within_limits t) (uniform_arrays t && placed t) h.within_limits_it (both (uniform_arrays t) (placed t) h.uniform_arrays_it h.suited), h.len, h.ranged), h.position)
root_size (Some t) (Err size_error.TooLong) after h = h
root_size (Some t) (Err size_error.InvalidValue) after h = h
root_size (Some t) (Err e) after h = absurd h.0

pub at_root : (s : SizeSerializer) (o : Option Tree) (r : Result ℕ SizeError) (after : SizeSerializer) → s.context ≡ Unmarked Root → SizePermits s o r after → AtPosition Root o r after.context
at_root s o r after q h = subst (λ u. AtPosition (position_of u) (meant u o) r after.context) q h

-- Afterwards the serializer is at the root again.
pub fresh : (s : SizeSerializer) (o : Option Tree) (r : Result ℕ SizeError) (after : SizeSerializer) → s.context ≡ Unmarked Root → SizePermits s o r after → after.context ≡ Unmarked Root
fresh s o r after q h = (root_size o r after.context (at_root s o r after q h)).1
