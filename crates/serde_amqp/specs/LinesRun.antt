-- The output of a run over the lines of a text, and its errors.
use Rattle.std.specs.Prelude.{◌≡◌, ℕ, ◌⊎◌, ◌↔◌, List, true, false, Option, Result, IsOk, IsErrOf, IsUtf8}
use Rattle.std.specs.Io.KnownBytes.{Keeps}
use Rattle.amqp_data.specs.declared.error.Error.{Error}
use Rattle.amqp_data.specs.declared.error.Error.TheVariants.{OutOfMemory, TooLong, InvalidValue, InvalidFormatCode, UnexpectedEof, Io, Message}
use Rattle.amqp_ser.specs.Writable.{writable}
use Rattle.serde_amqp.specs.Writer.{TakesPrefix}
use Rattle.serde_amqp.specs.Lines.{lines_tree, lines_out}

-- The text is UTF-8, and the list of its lines is writable.
abbrev pub IsReportable : List ℕ → Type 0
IsReportable s = IsUtf8 s × (writable (lines_tree s) ≡ true)

-- The text is UTF-8, and the list of its lines is not writable.
abbrev pub IsTooLong : List ℕ → Type 0
IsTooLong s = IsUtf8 s × (writable (lines_tree s) ≡ false)

-- Nothing was written, or the text is reportable and a prefix of its report was written.
abbrev pub PutsPrefix : List ℕ → Option (List ℕ) → Option (List ℕ) → Type 0
PutsPrefix s old new = Keeps old new ⊎ (IsReportable s × TakesPrefix old new (lines_out s))

-- What was written before each error.
abbrev pub LinesRefuses : List ℕ → Option (List ℕ) → Option (List ℕ) → Error → Type 0
LinesRefuses s old new OutOfMemory = PutsPrefix s old new
LinesRefuses s old new TooLong = IsTooLong s × Keeps old new
LinesRefuses s old new InvalidValue = ¬ IsUtf8 s × Keeps old new
LinesRefuses s old new Io = PutsPrefix s old new
LinesRefuses s old new InvalidFormatCode = ⊥
LinesRefuses s old new UnexpectedEof = ⊥
LinesRefuses s old new (Message words) = ⊥

-- The text decides the result, except for out of memory and I/O errors.
abbrev pub LinesDecidedBy : {T : Type 0} → List ℕ → Result T Error → Type 0
LinesDecidedBy s r =
    IsErrOf r OutOfMemory ⊎ (IsErrOf r Io ⊎ ((IsOk r ↔ IsReportable s)
    × (IsErrOf r InvalidValue ↔ ¬ IsUtf8 s) × (IsErrOf r TooLong ↔ IsTooLong s)))
