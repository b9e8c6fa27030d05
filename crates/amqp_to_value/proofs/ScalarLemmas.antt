-- Scalars under a marker are read as themselves.
use Rattle.std.proofs.Common.{ℕ, Bool, true, false, if◌then◌else◌, List, Option, Some, None, Result, refl}
use Rattle.amqp_ser.specs.Fixed.{fixed_scalar}
use Rattle.amqp_ser.specs.Marked.{marked_scalar}
use Rattle.amqp_ser.specs.Tree.{Scalar, Tree, scalar, binary, long, string, symbol, ulong}
use Rattle.amqp_ser.specs.declared.fixed.Fixed.{Fixed}
use Rattle.amqp_ser.specs.declared.fixed.Fixed.TheVariants as fixed
use Rattle.amqp_ser.specs.declared.marker.Marker.{Marker}
use Rattle.amqp_ser.specs.declared.marker.Marker.TheVariants as marker
use Rattle.amqp_value.specs.declared.value.Value.{Value}
use Rattle.amqp_to_value.specs.HeldImages.{IsOpenedImage}
use Rattle.amqp_to_value.specs.ImageOf.{Answers}
use Rattle.amqp_ser.specs.Meant.{as_descriptor, meant}
use Rattle.amqp_ser.specs.declared.pending.Pending.{Pending}
use Rattle.amqp_ser.specs.declared.pending.Pending.TheVariants as pending
use Rattle.amqp_to_value.specs.declared.value_error.ValueError.{ValueError}
use Rattle.amqp_to_value.proofs.OpenedLemmas.{IsOpened, opened_answer}

-- A scalar, or none.
abbrev IsScalar : Option Tree → Type 0
IsScalar None = Unit {0}
IsScalar (Some (scalar s)) = Unit {0}
IsScalar (Some t) = ⊥

itself : (o : Option Tree) → IsScalar o → IsOpened o o
itself None h = tt
itself (Some (scalar s)) h = refl
itself (Some t) h = absurd h

abbrev IsNoBinary : Scalar → Type 0
IsNoBinary (binary bs) = ⊥
IsNoBinary s = Unit {0}

sized_is : (b : Bool) (s : Scalar) → IsScalar (if b then Some (scalar s) else None)
sized_is true s = tt
sized_is false s = tt

marked_is : (m : Marker) (s : Scalar) → IsNoBinary s → IsScalar (marked_scalar m s)
marked_is marker.Symbol (string bs) h = tt
marked_is marker.Timestamp (long z) h = tt
marked_is marker.Decimal32 (binary bs) h = absurd h
marked_is marker.Decimal64 (binary bs) h = absurd h
marked_is marker.Decimal128 (binary bs) h = absurd h
marked_is marker.Uuid (binary bs) h = absurd h
marked_is marker.Lazy (binary bs) h = absurd h
marked_is marker.Other s h = tt
marked_is _ _ h = tt

descriptor_is : (s : Scalar) → IsScalar (as_descriptor (Some (scalar s)))
descriptor_is (ulong n) = tt
descriptor_is (symbol bs) = tt
descriptor_is s = tt

meant_is : (u : Pending) (s : Scalar) → IsNoBinary s → IsScalar (meant u (Some (scalar s)))
meant_is (pending.Marker m) s h = marked_is m s h
meant_is pending.Descriptor s h = descriptor_is s
meant_is pending.Nothing s h = tt

pub scalar_answer : (u : Pending) (s : Scalar) (r : Result Value ValueError) → IsNoBinary s → IsOpenedImage (meant u (Some (scalar s))) r → Answers (meant u (Some (scalar s))) r
scalar_answer u s r h g = opened_answer (meant u (Some (scalar s))) (meant u (Some (scalar s))) r (itself (meant u (Some (scalar s))) (meant_is u s h)) g

no_binary : (f : Fixed) → IsNoBinary (fixed_scalar f)
no_binary fixed.Null = tt
no_binary (fixed.Bool b) = tt
no_binary (fixed.Ubyte n) = tt
no_binary (fixed.Ushort n) = tt
no_binary (fixed.Uint n) = tt
no_binary (fixed.Ulong n) = tt
no_binary (fixed.Byte z) = tt
no_binary (fixed.Short z) = tt
no_binary (fixed.Int z) = tt
no_binary (fixed.Long z) = tt
no_binary (fixed.Float n) = tt
no_binary (fixed.Double n) = tt
no_binary (fixed.Char c) = tt

pub fixed_answer : (u : Pending) (f : Fixed) (r : Result Value ValueError) → IsOpenedImage (meant u (Some (scalar (fixed_scalar f)))) r → Answers (meant u (Some (scalar (fixed_scalar f)))) r
fixed_answer u f r g = scalar_answer u (fixed_scalar f) r (no_binary f) g

pub text_answer : (u : Pending) (bs : List ℕ) (r : Result Value ValueError) → IsOpenedImage (meant u (Some (scalar (string bs)))) r → Answers (meant u (Some (scalar (string bs)))) r
text_answer u bs r g = scalar_answer u (string bs) r tt g
