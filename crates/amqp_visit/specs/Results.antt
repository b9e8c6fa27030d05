-- Results of reading from an untyped value.
use Rattle.std.specs.Prelude.{◌≡◌, ℕ, List, Result, Ok, Err}
use Rattle.amqp_data.specs.declared.error.Error.{Error}
use Rattle.amqp_data.specs.declared.error.Error.TheVariants as error
use Rattle.amqp_ser.specs.Tree.{Tree}
use Rattle.amqp_de.specs.Answers as read
use Rattle.amqp_de.specs.Results.{IsMemory, kind_of}
use Rattle.amqp_de.specs.FromBytes.{IsOfReading, error_of}
use Rattle.amqp_de.specs.declared.fault.Fault.{Fault}

-- The error is out of memory.
abbrev pub IsOutOfMemory : Error → Type 0
IsOutOfMemory e = e ≡ error.OutOfMemory

-- The error is a message of these words.
abbrev pub IsMessage : List ℕ → Error → Type 0
IsMessage s (error.Message words) = words.now ≡ s
IsMessage s e = ⊥

-- The error is out of memory, or no value satisfies `P`.
abbrev pub Refuses : {T : Type 0} → (T → Type 0) → Error → Type 0
Refuses = read.Refuses IsOutOfMemory

-- The result is a value that satisfies `P`, or an error, which is out of memory unless no value
-- satisfies `P`.
abbrev pub Answers : {T : Type 0} → (T → Type 0) → Result T Error → Type 0
Answers = read.Answers IsOutOfMemory

-- If the tree is the image of a restorable `x`, it is read as a value with the same contents,
-- unless the error is out of memory.
abbrev pub Restores : {T : Type 0} → (T → Tree) → (T → Type 0) → (T → T → Type 0) → Tree → Result T Error → Type 0
Restores image P S = read.Restores image P S IsOutOfMemory

-- An invalid value, unless the value has a kind that is accepted.
abbrev pub InvalidUnless : {T : Type 0} → Type 0 → Result T Error → Type 0
InvalidUnless Accepted (Ok x) = Unit {0}
InvalidUnless Accepted (Err e) = ¬ Accepted → e ≡ error.InvalidValue

-- The fault of an error. All errors but those of a reader and of malformed bytes stay the same.
abbrev pub IsFaultOf : Error → Fault → Type 0
IsFaultOf e f = (IsOutOfMemory e → IsMemory f) × (IsOfReading e → error_of (kind_of f) ≡ e)

-- What was read from a source, with what is left of it; or the same error, as far as a fault can be
-- it.
abbrev pub Finishes : {T R : Type 0} → Result T Error → R → Result (T × R) Fault → Type 0
Finishes (Ok x) rest (Ok r) = r ≡ (x, rest)
Finishes (Ok x) rest (Err f) = ⊥
Finishes (Err e) rest (Ok r) = ⊥
Finishes (Err e) rest (Err f) = IsFaultOf e f
