-- Results of reading from a source.
use Rattle.std.specs.Prelude.{◌≡◌, ◌⊎◌, ◌==◌, ◌%◌, if◌then◌else◌, Result, Ok, Err, MatchResult}
use Rattle.amqp_ser.specs.Tree.{Tree, Descriptor}
use Rattle.amqp_de.specs.declared.fault.Fault.{Fault}
use Rattle.amqp_de.specs.declared.fault.FaultKind.{FaultKind}
use Rattle.amqp_de.specs.declared.fault.FaultKind.TheVariants.{OutOfMemory, Invalid, TooLong, GaveUp, Message}

-- Why nothing was read.
abbrev pub kind_of : Fault → FaultKind
kind_of e = if e.reason % 8 == 0 then OutOfMemory else if e.reason % 8 == 1 then Invalid else if e.reason % 8 == 2 then TooLong else
    if e.reason % 8 == 3 then GaveUp else Message e.message

-- The error is out of memory.
abbrev pub IsMemory : Fault → Type 0
IsMemory e = kind_of e ≡ OutOfMemory

-- The error is out of memory, or no value satisfies `P`. Nothing is said if `whole` does not hold.
abbrev pub Refuses : {T : Type 0} → Type 0 → (T → Type 0) → Fault → Type 0
Refuses {T} whole P e = whole → IsMemory e ⊎ ((x : T) → ¬ P x)

-- The result is a value that is read from the tree, and what is left; or an error that refuses the tree.
abbrev pub Takes : {T R : Type 0} → (Tree → T → Type 0) → Tree → Type 0 → (R → Type 0) → Result (T × R) Fault → Type 0
Takes reads t whole left (Ok r) = reads t r.0 × left r.1
Takes reads t whole left (Err e) = Refuses whole (reads t) e

-- If the tree is the image of a restorable `x`, a value with the same contents is read, unless the error is
-- out of memory.
abbrev pub Brings : {T R : Type 0} → (T → Tree) → (T → Type 0) → (T → T → Type 0) → Tree → Type 0 → Result (T × R) Fault → Type 0
Brings {T} image P S t whole r = (x : T) → P x → t ≡ image x → MatchResult r (λ y. S y.0 x) (λ e. whole → IsMemory e)

-- The same for the one value of a source.
abbrev pub TakesAll : {T : Type 0} → (Tree → T → Type 0) → Tree → Type 0 → Result T Fault → Type 0
TakesAll reads t whole (Ok x) = reads t x
TakesAll reads t whole (Err e) = Refuses whole (reads t) e

abbrev pub BringsAll : {T : Type 0} → (T → Tree) → (T → Type 0) → (T → T → Type 0) → Tree → Type 0 → Result T Fault → Type 0
BringsAll {T} image P S t whole r = (x : T) → P x → t ≡ image x → MatchResult r (λ y. S y x) (λ e. whole → IsMemory e)

-- The tree is read as the value, and `same` holds for it and each restorable value with this image.
abbrev pub ReadsAndRestores : {T : Type 0} → (Tree → T → Type 0) → (T → Tree) → (T → Type 0) → (T → T → Type 0) → Tree → T → Type 0
ReadsAndRestores {T} reads image restorable same t y = reads t y × ((x : T) → restorable x → t ≡ image x → same y x)

-- Like `Brings`, after a descriptor.
abbrev pub BringsBranch : {T R : Type 0} → (T → Descriptor) → (T → Tree) → (T → Type 0) → (T → T → Type 0) → Descriptor → Tree → Type 0 → Result (T × R) Fault → Type 0
BringsBranch {T} label image P S d t whole r = (x : T) → P x → d ≡ label x → t ≡ image x → MatchResult r (λ y. S y.0 x) (λ e. whole → IsMemory e)
