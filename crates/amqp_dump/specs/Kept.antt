-- The bytes of an item, and the bytes that are left of an input.
use Rattle.std.specs.Prelude.{◌≡◌, ◌++◌, ℕ, List, Option, Some}
use Rattle.std.specs.Io.KnownBytes.{Consumes, prepend_known}

-- what was taken and what is left, together, stay as they were, if they were known
abbrev pub Stays : List ℕ → Option (List ℕ) → List ℕ → Option (List ℕ) → Type 0
Stays item_bytes left item_bytes' left' = (s : List ℕ) → prepend_known item_bytes left ≡ Some s → prepend_known item_bytes' left' ≡ Some s

-- the bytes that a reader loses are appended to those that were read before
abbrev pub ReadsMore : List ℕ → Option (List ℕ) → List ℕ → Option (List ℕ) → Type 0
ReadsMore old left new left' = (more : List ℕ) × Consumes left left' more × (new ≡ old ++ more)
