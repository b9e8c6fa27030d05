-- If a search finds no position, its test fails for each element.
use Rattle.std.proofs.Common.{◌≡◌, ℕ, ◌≤◌, Bool, true, false, cond, nat_lt, List, [], ◌∷◌, length, position, Some, None, refl, arith}
use Rattle.std.proofs.lemmas.Bool.Decides.{nat_tests}
use Rattle.std.specs.List.{position_or_len}

-- the test fails for each element
abbrev pub AllFail : {X : Type 0} → (X → Bool) → List X → Type 0
AllFail p [] = Unit {0}
AllFail p (x ∷ xs) = (p x ≡ false) × AllFail p xs

module _ {X : Type 0} (p : X → Bool) where
  head_fails : (b : Bool) (x : X) (xs : List X) → p x ≡ b → length (x ∷ xs) ≤ position_or_len p (x ∷ xs)
      → (p x ≡ false) × (length xs ≤ position_or_len p xs)
  head_fails true x xs is past = absurd (omega (arith, rw is at past))
  head_fails false x xs is past = (is, omega (arith, rw is at past))

  all_fail : (xs : List X) → length xs ≤ position_or_len p xs → AllFail p xs
  all_fail [] past = tt
  all_fail (x ∷ xs) past = let s = head_fails (p x) x xs refl past in (s.0, all_fail xs s.1)

  not_below : (b : Bool) (m n : ℕ) → nat_lt m n ≡ b → cond b (Some m) None ≡ None → n ≤ m
  not_below true m n is none = absurd (cc)
  not_below false m n is none = grind (arith, nat_tests)

  -- if no position is found, the test fails for each element
  pub fail_by_position : (xs : List X) → position p xs ≡ None → AllFail p xs
  fail_by_position xs none = all_fail xs (not_below (nat_lt (position_or_len p xs) (length xs)) _ _ refl none)
