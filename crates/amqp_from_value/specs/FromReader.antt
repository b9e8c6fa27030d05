-- What is read from encoded bytes, and which trees can be decoded from their encoding (AMQP 1.0
-- part 1, sections 1.2 and 1.6).
use Rattle.std.specs.Prelude.{◌≡◌, ◌≤◌, ◌⊎◌, ℕ, List, Option, Some, None, true}
use Rattle.std.specs.Io.KnownBytes.{Consumes}
use Rattle.amqp_data.specs.declared.error.Error.{Error}
use Rattle.amqp_data.specs.declared.error.Error.TheVariants.{OutOfMemory}
use Rattle.amqp_frame.specs.EncodedValue.{IsEncodedValue}
use Rattle.amqp_frame.specs.Taking.{RefusesEncodedValue, TakesIncomplete, TakesMalformed}
use Rattle.amqp_ser.specs.Ranged.{IsRanged}
use Rattle.amqp_ser.specs.Tree.{Tree}
use Rattle.amqp_ser.specs.Writable.{writable}
use Rattle.amqp_decode.specs.Depth.{IsOrdinary, depth_of}
use Rattle.amqp_de.specs.Answers.{Refuses}
use Rattle.amqp_de.specs.FromBytes.{ReadsEncoded}

-- One encoded value was consumed, and it is read as x.
abbrev pub ReadsNext : {T : Type 0} → (Tree → T → Type 0) → Option (List ℕ) → Option (List ℕ) → T → Type 0
ReadsNext R old new x = (bytes : List ℕ) × IsEncodedValue bytes × Consumes old new bytes × ReadsEncoded R bytes x

-- The error is that of a reader without an encoded value; or one encoded value was consumed, and
-- the error is out of memory unless nothing is read from it.
abbrev pub RefusesNext : {T : Type 0} → (Tree → T → Type 0) → Option (List ℕ) → Option (List ℕ) → ℕ → ℕ → Error → Type 0
RefusesNext {T} R old new before after e =
    RefusesEncodedValue old new before after (TakesIncomplete old new) (TakesMalformed old new) e
    ⊎ ((bytes : List ℕ) × IsEncodedValue bytes × Consumes old new bytes
    × Refuses (λ f. f ≡ OutOfMemory) (λ (x : T). ReadsEncoded R bytes x) e)

-- The tree can be written, and decoded from its encoding.
abbrev pub CanBeDecoded : Tree → Type 0
CanBeDecoded t = IsRanged t × (writable t ≡ true) × IsOrdinary t × (depth_of t ≤ 256)

-- There is such a tree.
abbrev pub HasDecodable : Option Tree → Type 0
HasDecodable None = ⊥
HasDecodable (Some t) = CanBeDecoded t
