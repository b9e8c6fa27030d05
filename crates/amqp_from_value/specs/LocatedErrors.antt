-- Errors of reading from bytes, with their place.
use Rattle.std.specs.Prelude.{◌≡◌, ℕ, List}
use Rattle.amqp_data.specs.declared.error.Error.{Error}
use Rattle.amqp_data.specs.declared.error.Error.TheVariants.{OutOfMemory, TooLong}
use Rattle.amqp_ser.specs.Tree.{Tree}
use Rattle.amqp_decode.specs.Faults.{DecodeFails}
use Rattle.amqp_decode.specs.Located.{IsPlaced}
use Rattle.amqp_decode.specs.Encodes.{Encodes}
use Rattle.amqp_de.specs.Results.{kind_of}
use Rattle.amqp_de.specs.FromBytes.{HasOffsetIn, error_of}
use Rattle.amqp_from_value.specs.Limited.{IsAllowed}
use Rattle.amqp_from_value.specs.declared.limited.Limits.{Limits}
use Rattle.amqp_from_value.specs.declared.located.SliceError.{SliceError}
use Rattle.amqp_from_value.specs.declared.located.SliceError.TheVariants.{Bytes, Value}

-- The error without its place.
abbrev pub error_in : SliceError → Error
error_in (Bytes located) = located.error
error_in (Value fault) = error_of (kind_of fault)

-- The bytes have their first fault at the place, which gives the error; or they encode a value, and
-- the offset is in them.
abbrev pub IsLocatedIn : List ℕ → SliceError → Type 0
IsLocatedIn bytes (Bytes located) =
    DecodeFails 256 bytes located.error × (¬ (located.error ≡ OutOfMemory) → IsPlaced located.place 256 bytes)
IsLocatedIn bytes (Value fault) = ((t : Tree) × Encodes 256 bytes t) × HasOffsetIn bytes fault

-- The bytes encode no value, and have their first fault at the place, unless a limit is exceeded or
-- an allocation failed; or they encode a value within the limits, and the offset is in them.
abbrev pub IsLocatedWithin : Limits → List ℕ → SliceError → Type 0
IsLocatedWithin limits bytes (Bytes located) =
    ¬ (located.error ≡ OutOfMemory) → ¬ (located.error ≡ TooLong) → ((t : Tree) → ¬ Encodes 256 bytes t) × IsPlaced located.place 256 bytes
IsLocatedWithin limits bytes (Value fault) = ((t : Tree) × IsAllowed limits bytes t) × HasOffsetIn bytes fault
