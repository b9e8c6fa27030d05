-- The output of one step of a run over encoded values, and its errors (AMQP 1.0 part 1, section
-- 1.2).
use Rattle.std.specs.Prelude.{◌≡◌, ℕ, ◌⊎◌, List, ◌++◌, Option}
use Rattle.std.specs.Io.KnownBytes.{Keeps, Consumes, Appends}
use Rattle.amqp_data.specs.declared.error.Error.{Error}
use Rattle.amqp_data.specs.declared.error.Error.TheVariants.{OutOfMemory, TooLong, InvalidValue, InvalidFormatCode, UnexpectedEof, Io, Message}
use Rattle.amqp_frame.specs.EncodedValue.{IsEncodedValue, HasEncodedValue, HasMalformed}
use Rattle.serde_amqp.specs.Writer.{TakesPrefix}
use Rattle.serde_amqp.specs.CutLines.{cut_line}
use Rattle.serde_amqp.specs.CutRun.{IsCutShort}

-- The next encoded value was read, and its line was written.
abbrev pub PrintsNext : Option (List ℕ) → Option (List ℕ) → Option (List ℕ) → Option (List ℕ) → Type 0
PrintsNext old new before after = (encoded : List ℕ) × IsEncodedValue encoded × Consumes old new encoded × Appends before after (cut_line encoded)

-- A step at s stopped before its line was written, or after a prefix of it.
abbrev pub StopsInLine : List ℕ → Option (List ℕ) → Option (List ℕ) → Type 0
StopsInLine s before after =
    Keeps before after ⊎ ((encoded rest : List ℕ) × IsEncodedValue encoded × (s ≡ encoded ++ rest) × TakesPrefix before after (cut_line encoded))

-- What was written before each error of a step at s.
abbrev pub StepRefuses : List ℕ → Option (List ℕ) → Option (List ℕ) → Error → Type 0
StepRefuses s before after OutOfMemory = StopsInLine s before after
StepRefuses s before after InvalidFormatCode = HasMalformed s × ¬ HasEncodedValue s × Keeps before after
StepRefuses s before after UnexpectedEof = IsCutShort s × ¬ HasEncodedValue s × Keeps before after
StepRefuses s before after Io = StopsInLine s before after
StepRefuses s before after TooLong = ⊥
StepRefuses s before after InvalidValue = ⊥
StepRefuses s before after (Message words) = ⊥
