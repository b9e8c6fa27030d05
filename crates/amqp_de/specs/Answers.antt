-- Results of reading, by any error. `Memory` holds for the errors that are out of memory.
use Rattle.std.specs.Prelude.{◌≡◌, ◌⊎◌, Result, Ok, Err, MatchResult}
use Rattle.amqp_ser.specs.Tree.{Tree}

-- The error is out of memory, or no value satisfies `P`.
abbrev pub Refuses : {T E : Type 0} → (E → Type 0) → (T → Type 0) → E → Type 0
Refuses {T} Memory P e = Memory e ⊎ ((x : T) → ¬ P x)

-- The result is a value that satisfies `P`, or an error, which is out of memory unless no value
-- satisfies `P`.
abbrev pub Answers : {T E : Type 0} → (E → Type 0) → (T → Type 0) → Result T E → Type 0
Answers Memory P (Ok x) = P x
Answers Memory P (Err e) = Refuses Memory P e

-- If the tree is the image of a restorable `x`, it is read as a value with the same contents,
-- unless the error is out of memory.
abbrev pub Restores : {T E : Type 0} → (T → Tree) → (T → Type 0) → (T → T → Type 0) → (E → Type 0) → Tree → Result T E → Type 0
Restores {T} image P S Memory t r = (x : T) → P x → t ≡ image x → MatchResult r (λ y. S y x) Memory
