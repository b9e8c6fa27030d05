-- The bytes that a reader consumes for an encoded value, or before an error (AMQP 1.0 part 1,
-- section 1.2).
use Rattle.std.specs.Prelude.{◌≡◌, ℕ, ◌+◌, ◌≤◌, ◌<◌, ◌⊎◌, ◌↔◌, List, [], ◌++◌, length, take, Option, Some, IfSome, Result, IsOk, IsErrOf}
use Rattle.std.specs.Io.KnownBytes.{Consumes}
use Rattle.amqp_data.specs.declared.error.Error.{Error}
use Rattle.amqp_data.specs.declared.error.Error.TheVariants.{OutOfMemory, TooLong, InvalidValue, InvalidFormatCode, UnexpectedEof, Io, Message}
use Rattle.amqp_frame.specs.declared.code.Category.{Category}
use Rattle.amqp_frame.specs.Code.{payload_len}
use Rattle.amqp_frame.specs.EncodedValue.{IsIncomplete, IsMalformed, HasEncodedValue, HasMalformed}
use Rattle.amqp_frame.specs.Reader.{Takes, Failed}

-- bytes that satisfy P were consumed from a reader and appended to a list
abbrev pub Moves : Option (List ℕ) → Option (List ℕ) → List ℕ → List ℕ → (List ℕ → Type 0) → Type 0
Moves old new before after P = (bytes : List ℕ) × Consumes old new bytes × (after ≡ before ++ bytes) × P bytes

-- the bytes that remained were incomplete, and all of them were consumed
abbrev pub TakesIncomplete : Option (List ℕ) → Option (List ℕ) → Type 0
TakesIncomplete old new = IfSome old (λ s. IsIncomplete s × (new ≡ Some []))

-- exactly a malformed prefix was consumed, which ends with the invalid code
abbrev pub TakesMalformed : Option (List ℕ) → Option (List ℕ) → Type 0
TakesMalformed old new = (prefix : List ℕ) × IsMalformed prefix × Consumes old new prefix

-- the statement for each error: `at_end` for `UnexpectedEof`, `at_code` for `InvalidFormatCode`
abbrev pub RefusesEncodedValue : Option (List ℕ) → Option (List ℕ) → ℕ → ℕ → Type 0 → Type 0 → Error → Type 0
RefusesEncodedValue old new before after at_end at_code OutOfMemory = Takes old new
RefusesEncodedValue old new before after at_end at_code UnexpectedEof = at_end
RefusesEncodedValue old new before after at_end at_code InvalidFormatCode = at_code
RefusesEncodedValue old new before after at_end at_code Io = Takes old new × Failed before after
RefusesEncodedValue old new before after at_end at_code TooLong = ⊥
RefusesEncodedValue old new before after at_end at_code InvalidValue = ⊥
RefusesEncodedValue old new before after at_end at_code (Message words) = ⊥

-- the payload of a code of this category, which ends at `held`, ends after `limit`; no byte after
-- `limit` was consumed
abbrev pub PassesLimit : ℕ → ℕ → Category → Option (List ℕ) → Option (List ℕ) → Type 0
PassesLimit limit held kind old new =
    (taken : List ℕ) × Consumes old new taken × (held + length taken ≤ limit)
    × IfSome old (λ s. limit < held + payload_len kind s)

-- at most `limit` bytes were consumed, and the first `limit` bytes that remained are incomplete
abbrev pub ExceedsLimit : ℕ → Option (List ℕ) → Option (List ℕ) → Type 0
ExceedsLimit limit old new =
    (taken : List ℕ) × Consumes old new taken × (length taken ≤ limit) × IfSome old (λ s. IsIncomplete (take limit s))

-- the statement for each error with a limit: `at_limit` for `TooLong`
abbrev pub LimitedRefuses : Type 0 → Option (List ℕ) → Option (List ℕ) → ℕ → ℕ → Type 0 → Type 0 → Error → Type 0
LimitedRefuses at_limit old new before after at_end at_code TooLong = at_limit
LimitedRefuses at_limit old new before after at_end at_code e = RefusesEncodedValue old new before after at_end at_code e

-- the statement for each error of reading an encoded value of at most `limit` bytes
abbrev pub RefusesWithin : ℕ → Option (List ℕ) → Option (List ℕ) → ℕ → ℕ → Error → Type 0
RefusesWithin limit old new before after e =
    LimitedRefuses (ExceedsLimit limit old new) old new before after (TakesIncomplete old new) (TakesMalformed old new) e

-- except for `OutOfMemory` and `Io`, the bytes that remained determine the result
abbrev pub DecidedBy : {T : Type 0} → List ℕ → Result T Error → Type 0
DecidedBy s r =
    IsErrOf r OutOfMemory ⊎ (IsErrOf r Io ⊎ ((IsOk r ↔ HasEncodedValue s)
    × (IsErrOf r InvalidFormatCode ↔ HasMalformed s) × (IsErrOf r UnexpectedEof ↔ IsIncomplete s)))
