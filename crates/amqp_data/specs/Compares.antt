-- Statements that equality, order and hash depend on the content.
use Rattle.std.specs.Prelude.{◌≡◌, ◌↔◌, ℕ, Bool, List, IsTrue}

module _ {T C : Type 0} (content : T → C) where
  -- a and b are equal if and only if their contents are equal
  abbrev pub EqualBy : (T → T → Bool) → T → T → Type 0
  EqualBy eq a b = IsTrue (eq a b) ↔ (content a ≡ content b)

  -- a and b compare as their contents do
  abbrev pub ComparesBy : {R : Type 0} → (C → C → R) → (T → T → R) → T → T → Type 0
  ComparesBy of_contents compare a b = compare a b ≡ of_contents (content a) (content b)

  -- if a and b have the same content, they have the same hash input
  abbrev pub HashesBy : (T → List (List ℕ)) → T → T → Type 0
  HashesBy input a b = content a ≡ content b → input a ≡ input b
