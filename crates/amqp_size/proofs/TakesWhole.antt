-- The size of a whole value at a position where it has its ordinary form.
use Rattle.std.proofs.Common.{◌≡◌, ℕ, Option, Some, None, Result, Ok, Err, true, false, length, refl, sym, subst}
use Rattle.std.specs.Option.{MatchOption, IfSome}
use Rattle.amqp_ser.specs.Tree.{Tree, scalar, list, array, map, described, variant, lazy, transparent}
use Rattle.amqp_ser.specs.Encoding.{encoding}
use Rattle.amqp_ser.specs.Ranged.{IsRanged}
use Rattle.amqp_ser.specs.Writable.{within_limits, uniform_arrays, inside, placed}
use Rattle.amqp_size.specs.Position.{position_of, meant}
use Rattle.amqp_size.specs.WholePosition.{Root, InCompound, FirstElement, OtherElement, Descriptor, Value}
use Rattle.amqp_size.specs.WholeContext.{Context}
use Rattle.amqp_size.specs.WholeContext as context
use Rattle.amqp_size.specs.SizeSerializer.{AtPosition, SizePermits, TakesWhole}
use Rattle.amqp_size.specs.declared.size_error.SizeError.{SizeError}
use Rattle.amqp_size.specs.declared.serializer.SizeSerializer.{SizeSerializer}

placed_inside : (t : Tree) → inside t ≡ true → placed t ≡ true
placed_inside (scalar s) h = refl
placed_inside (list ts) h = h
placed_inside (array ts) h = h
placed_inside (map ps) h = h
placed_inside (described d t) h = h
placed_inside (variant i t) h = h
placed_inside (lazy bs) h = refl
placed_inside (transparent ts) h = cc

pub whole_at : (u : Context) (t : Tree) (n : ℕ) → TakesWhole u
    → (within_limits t ≡ true) × ((uniform_arrays t ≡ true) × ((inside t ≡ true) × (n ≡ length (encoding t)))) → IsRanged t
    → AtPosition (position_of u) (meant u (Some t)) (Ok n) u
whole_at (context.Unmarked Root) t n k h g = record { within_limits_it = h.0; uniform_arrays_it = h.1.0; suited = placed_inside t h.1.1.0; len = h.1.1.1; position = refl; ranged = g }
whole_at (context.Unmarked InCompound) t n k h g = record { within_limits_it = h.0; uniform_arrays_it = h.1.0; suited = h.1.1.0; len = h.1.1.1; position = refl; ranged = g }
whole_at (context.Unmarked FirstElement) t n k h g = absurd k
whole_at (context.Unmarked (OtherElement c)) t n k h g = absurd k
whole_at (context.Unmarked Descriptor) t n k h g = absurd k
whole_at (context.Unmarked (Value m b)) t n k h g = absurd k
whole_at (context.Array p) t n k h g = absurd k
whole_at (context.Transparent p) t n k h g = absurd k
whole_at (context.Scalar m p) t n k h g = absurd k
whole_at (context.Nothing p) t n k h g = absurd k

-- The result of a value that is measured at once, or nothing.
pub measured_at : (s after : SizeSerializer) (t : Tree) (r : Option ℕ) → TakesWhole s.context → after.context ≡ s.context
    → IfSome r (λ n. (within_limits t ≡ true) × ((uniform_arrays t ≡ true) × ((inside t ≡ true) × (n ≡ length (encoding t))))) → IfSome r (λ _. IsRanged t)
    → MatchOption r ((o : Option Tree) (a : Result ℕ SizeError) (end : SizeSerializer) → SizePermits after o a end → SizePermits s o a end) (λ n. SizePermits s (Some t) (Ok n) after)
measured_at s after t None k same h g = λ o a end p. subst (λ u. AtPosition (position_of u) (meant u o) a end.context) same p
measured_at s after t (Some n) k same h g = subst (λ u. AtPosition (position_of s.context) (meant s.context (Some t)) (Ok n) u) (sym same) (whole_at s.context t n k h g)
