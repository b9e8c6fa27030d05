-- Trees that are not encoded as a lazy value.
use Rattle.std.proofs.Common.{◌≡◌, ◌∙◌, ◌&&◌, Bool, true, false, Some, Err, inl, inr, refl, sym}
use Rattle.std.proofs.lemmas.Bool.{and_parts}
use Rattle.amqp_data.specs.declared.error.Error.{Error}
use Rattle.amqp_data.specs.declared.error.Error.TheVariants.{OutOfMemory, TooLong, InvalidValue, InvalidFormatCode, UnexpectedEof, Io, Message}
use Rattle.amqp_frame.specs.EncodedValue.{IsEncodedValue}
use Rattle.amqp_ser.specs.Encoding.{encoding}
use Rattle.amqp_ser.specs.Ranged.{IsRanged}
use Rattle.amqp_ser.specs.Tree.{Tree, is_transparent}
use Rattle.amqp_ser.specs.Writable.{within_limits, uniform_arrays, placed, writable}
use Rattle.amqp_ser.proofs.EncodedValue.{encoding_is_encoded}
use Rattle.amqp_wire.specs.LazyOf.{IsLazyOf}

go : (t : Tree) → IsRanged t → writable t ≡ true → ¬ IsEncodedValue (encoding t) → (b : Bool) → is_transparent t ≡ b → b ≡ true
go t r w n true e = refl
go t r w n false e = absurd (n (encoding_is_encoded t r w e))

-- If its bytes are not one encoded value, its root is transparent.
pub root_transparent : (t : Tree) → IsRanged t → writable t ≡ true → ¬ IsEncodedValue (encoding t) → is_transparent t ≡ true
root_transparent t r w n = go t r w n (is_transparent t) refl

no_false : true ≡ false → ⊥
no_false h = cc

-- If it is writable and its root is not transparent, only memory is missing.
pub refused_writable : (t : Tree) (e : Error) → is_transparent t ≡ false → writable t ≡ true → IsLazyOf (Some t) (Err e) → e ≡ OutOfMemory
refused_writable t OutOfMemory o w h = refl
refused_writable t TooLong o w h = absurd (no_false (sym (and_parts (within_limits t) (uniform_arrays t && placed t) w).0 ∙ h))
refused_writable t InvalidValue o w (inl h) = absurd (no_false (sym (and_parts (within_limits t) (uniform_arrays t && placed t) w).1 ∙ h))
refused_writable t InvalidValue o w (inr h) = absurd (no_false (sym h.0 ∙ o))
refused_writable t InvalidFormatCode o w h = absurd h
refused_writable t UnexpectedEof o w h = absurd h
refused_writable t Io o w h = absurd h
refused_writable t (Message words) o w h = absurd h
