-- The contents of scalars of fixed width (AMQP 1.0 part 1, sections 1.6.11 to 1.6.18).
use Rattle.std.specs.Prelude.{◌≡◌, ◌≢◌, ℕ, ℤ, List, length, Result, IsOk, IfOk, IfErr}
use Rattle.amqp_data.specs.declared.error.Error.{Error}
use Rattle.amqp_data.specs.declared.error.Error.TheVariants.{InvalidValue}
use Rattle.amqp_data.specs.declared.bits.F32Bits.{F32Bits}
use Rattle.amqp_data.specs.declared.bits.F64Bits.{F64Bits}
use Rattle.amqp_data.specs.declared.decimal.Dec32.{Dec32}
use Rattle.amqp_data.specs.declared.decimal.Dec64.{Dec64}
use Rattle.amqp_data.specs.declared.decimal.Dec128.{Dec128}
use Rattle.amqp_data.specs.declared.timestamp.Timestamp.{Timestamp}
use Rattle.amqp_data.specs.declared.uuid.Uuid.{Uuid}

-- the bits of a float, as an unsigned number
abbrev pub f32_bits : F32Bits → ℕ
f32_bits float = float.0

-- the bits of a double, as an unsigned number
abbrev pub f64_bits : F64Bits → ℕ
f64_bits double = double.0

-- the 4 bytes of a decimal32
abbrev pub dec32_bytes : Dec32 → List ℕ
dec32_bytes decimal = decimal.0

-- the 8 bytes of a decimal64
abbrev pub dec64_bytes : Dec64 → List ℕ
dec64_bytes decimal = decimal.0

-- the 16 bytes of a decimal128
abbrev pub dec128_bytes : Dec128 → List ℕ
dec128_bytes decimal = decimal.0

-- the milliseconds of a timestamp since the Unix epoch
abbrev pub milliseconds_of : Timestamp → ℤ
milliseconds_of timestamp = timestamp.0

-- the 16 bytes of a uuid
abbrev pub uuid_bytes : Uuid → List ℕ
uuid_bytes uuid = uuid.0

-- the result of converting bytes to a scalar of `width` bytes: a scalar with these bytes, or
-- `InvalidValue` if their number is not `width`
abbrev pub GivesFixed : {T : Type 0} → ℕ → (T → List ℕ) → List ℕ → Result T Error → Type 0
GivesFixed width bytes_of bytes result =
    (length bytes ≡ width → IsOk result)
    × IfOk result (λ value. (length bytes ≡ width) × (bytes_of value ≡ bytes))
    × IfErr result (λ e. (length bytes ≢ width) × (e ≡ InvalidValue))
