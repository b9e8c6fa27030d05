-- The test for UTF-8.
use Rattle.std.proofs.Common.{◌≡◌, ℕ, Bool, true, false, List, refl}
use Rattle.std.specs.Str.{is_utf8, IsUtf8}
use Rattle.std.proofs.lemmas.Str.{IsUtf8-from_is_utf8}

pub is_utf8-refuted : (b : List ℕ) → (IsUtf8 b → ⊥) → is_utf8 b ≡ false
is_utf8-refuted b fails = by_test (is_utf8 b) refl
  where
    by_test : (t : Bool) → is_utf8 b ≡ t → t ≡ false
    by_test true e = absurd (fails (IsUtf8-from_is_utf8 b e))
    by_test false e = refl
