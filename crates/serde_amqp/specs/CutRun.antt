-- The output of a run over the encoded values of a byte string, and its errors (AMQP 1.0 part 1,
-- section 1.2).
use Rattle.std.specs.Prelude.{◌≡◌, ◌≢◌, ℕ, ◌-◌, ◌^◌, ◌≤◌, ◌⊎◌, ◌↔◌, List, [], ◌++◌, length, Option, Result, IsOk, IsErrOf}
use Rattle.std.specs.List.{AllByRecursion, concat}
use Rattle.std.specs.Io.KnownBytes.{Appends}
use Rattle.amqp_data.specs.declared.error.Error.{Error}
use Rattle.amqp_data.specs.declared.error.Error.TheVariants.{OutOfMemory, TooLong, InvalidValue, InvalidFormatCode, UnexpectedEof, Io, Message}
use Rattle.amqp_frame.specs.Cut.{IsCut}
use Rattle.amqp_frame.specs.EncodedValue.{IsEncodedValue, IsIncomplete, HasMalformed}
use Rattle.serde_amqp.specs.Writer.{TakesPrefix}
use Rattle.serde_amqp.specs.CutLines.{cut_lines}

-- The lines of all values of the cut were written, and P holds for its rest.
abbrev pub Prints : List ℕ → Option (List ℕ) → Option (List ℕ) → (List ℕ → Type 0) → Type 0
Prints s old new P = (encoded_values : List (List ℕ)) × (rest : List ℕ) × IsCut s encoded_values rest × Appends old new (cut_lines encoded_values) × P rest

-- A prefix of the lines of the cut was written.
abbrev pub PrintsPrefix : List ℕ → Option (List ℕ) → Option (List ℕ) → Type 0
PrintsPrefix s old new = (encoded_values : List (List ℕ)) × (rest : List ℕ) × IsCut s encoded_values rest × TakesPrefix old new (cut_lines encoded_values)

-- The lines of 2 ^ 64 - 1 values, the most that a run reads, were written, and more bytes follow.
abbrev pub PrintsMost : List ℕ → Option (List ℕ) → Option (List ℕ) → Type 0
PrintsMost s old new =
    (encoded_values : List (List ℕ)) × (rest : List ℕ) × (length encoded_values ≡ 2 ^ 64 - 1) × AllByRecursion IsEncodedValue encoded_values
    × (s ≡ concat encoded_values ++ rest) × (rest ≢ []) × Appends old new (cut_lines encoded_values)

-- An incomplete value of at least one byte.
abbrev pub IsCutShort : List ℕ → Type 0
IsCutShort rest = (rest ≢ []) × IsIncomplete rest

-- What was written before each error.
abbrev pub CutRefuses : List ℕ → Option (List ℕ) → Option (List ℕ) → Error → Type 0
CutRefuses s old new OutOfMemory = PrintsPrefix s old new
CutRefuses s old new TooLong = PrintsMost s old new
CutRefuses s old new InvalidFormatCode = Prints s old new HasMalformed
CutRefuses s old new UnexpectedEof = Prints s old new IsCutShort
CutRefuses s old new Io = PrintsPrefix s old new
CutRefuses s old new InvalidValue = ⊥
CutRefuses s old new (Message words) = ⊥

-- On fewer than 2 ^ 64 bytes, the rest of the cut decides the result, except for out of memory and
-- I/O errors.
abbrev pub CutDecidedBy : {T : Type 0} → List ℕ → Result T Error → Type 0
CutDecidedBy s r =
    (encoded_values : List (List ℕ)) (rest : List ℕ) → IsCut s encoded_values rest
    → IsErrOf r OutOfMemory ⊎ (IsErrOf r Io ⊎ ((IsErrOf r TooLong × (2 ^ 64 ≤ length s)) ⊎ ((IsOk r ↔ (rest ≡ []))
    × (IsErrOf r InvalidFormatCode ↔ HasMalformed rest) × (IsErrOf r UnexpectedEof ↔ IsCutShort rest))))
