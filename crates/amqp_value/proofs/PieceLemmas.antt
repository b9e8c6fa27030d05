-- A piece of a text that is as long as a character has at least one.
use Rattle.std.proofs.Common.{◌≡◌, ℕ, ◌<◌, ◌≤◌, List, [], ◌∷◌, length, inl, inr, ap, sym, arith}
use Rattle.std.proofs.lemmas.Bool.{cases_lt}
use Rattle.std.proofs.lemmas.Str.{IsCharBoundary-past_char, len_utf8_bounds, length-encode}
use Rattle.std.specs.Str.{IsCharBoundary, IsUtf8}
use lib.Utf8.{encode, encodes}

-- the last boundary up to `most` bytes is past the first character
pub past_a_character : (bs : List ℕ) (most end : ℕ) → IsUtf8 bs → most < length bs → 4 ≤ most
    → ((i : ℕ) → end < i → i ≤ most → IsCharBoundary bs i → ⊥) → 0 < end
past_a_character bs most end utf8 longer room nearest = by utf8.0 utf8.1.1
  where
    by : (cs : List ℕ) → encodes cs ≡ bs → 0 < end
    by [] spelt = absurd (omega (arith, ap length spelt))
    by (c ∷ cs) spelt =
        let bounds = len_utf8_bounds c in
        let boundary = IsCharBoundary-past_char bs (encodes cs) 0 c (omega arith) utf8 (sym spelt) in
        elim (cases_lt end (length (encode c))) [
          | inl before ↦ absurd (nearest _ (omega (arith, length-encode c)) (omega (arith, bounds.1)) boundary)
          | inr past ↦ omega (arith, bounds.0, length-encode c)
        ]
