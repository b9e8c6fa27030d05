-- The lengths of values of fixed width.
use Rattle.std.proofs.Common.{◌≡◌, ℕ, zero, suc, ◌+◌, length, true, refl, ap, sym, ◌∙◌, arith}
use Rattle.std.specs.Int.{bytes_high_first}
use Rattle.amqp_ser.specs.Fixed.{fixed_scalar}
use Rattle.amqp_ser.specs.Scalars.{scalar_form, scalar_payload}
use Rattle.amqp_ser.specs.Writable.{scalar_fits}
use Rattle.amqp_ser.specs.declared.fixed.Fixed.{Fixed}
use Rattle.amqp_ser.specs.declared.fixed.Fixed.TheVariants as fixed
use Rattle.amqp_size.specs.ScalarEncoding.{form_bytes, form_payload}
use Rattle.amqp_size.specs.declared.scalar_encoding.ScalarEncoding.{ScalarEncoding}

pub length-bytes_high_first : (k n : ℕ) → length (bytes_high_first k n) ≡ k
length-bytes_high_first zero n = refl
length-bytes_high_first (suc k) n = let e = length-bytes_high_first k n in omega arith

pub length-ordinary : (f : ScalarEncoding) (v : Fixed) → form_bytes f ≡ scalar_form (fixed_scalar v) → length (scalar_form (fixed_scalar v)) ≡ f.width + 1
length-ordinary f v e = let l = length-bytes_high_first f.width f.bits in let k = ap length e in omega arith

pub length-payload : (f : ScalarEncoding) (v : Fixed) → form_payload f ≡ scalar_payload (fixed_scalar v) → length (scalar_payload (fixed_scalar v)) ≡ f.width
length-payload f v e = sym (ap length e) ∙ length-bytes_high_first f.width f.bits

pub fixed_fits : (v : Fixed) → scalar_fits (fixed_scalar v) ≡ true
fixed_fits fixed.Null = refl
fixed_fits (fixed.Bool b) = refl
fixed_fits (fixed.Ubyte n) = refl
fixed_fits (fixed.Ushort n) = refl
fixed_fits (fixed.Uint n) = refl
fixed_fits (fixed.Ulong n) = refl
fixed_fits (fixed.Byte z) = refl
fixed_fits (fixed.Short z) = refl
fixed_fits (fixed.Int z) = refl
fixed_fits (fixed.Long z) = refl
fixed_fits (fixed.Float n) = refl
fixed_fits (fixed.Double n) = refl
fixed_fits (fixed.Char c) = refl
