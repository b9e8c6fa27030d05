-- Hexadecimal digits are ASCII, and those of a list are those of its parts.
use Rattle.std.proofs.Common.{◌≡◌, refl, inl, inr, Bool, true, ◌&&◌, eqb, ℕ, zero, suc, ◌+◌, ◌*◌, ◌/◌, ◌%◌, ◌-◌, ◌<◌, ◌≤◌, List, [], ◌∷◌, ◌++◌, take, drop, get_or, set, length, length-set, append_assoc, sym, ap, ◌∙◌, arith}
use Rattle.std.proofs.lemmas.Str.Ascii.{IsAscii-nil, IsAscii-cons}
use Rattle.std.proofs.lemmas.Bool.{and_parts, cases_lt, eqb-true}
use Rattle.std.proofs.lemmas.List.{take_more, take_more_set}
use Rattle.std.proofs.lemmas.List.Concat.{flat_map-append}
use Rattle.std.proofs.Math.Seq.{take-add}
use Rattle.std.specs.Prelude.{IsAscii}
use Rattle.amqp_data.specs.Hexadecimal.{hex, hex_byte, hex_digit}
use Rattle.amqp_data.specs.declared.hexadecimal.TheConstants.{DIGITS}

hex_digit_ascii : (d : ℕ) → d < 16 → hex_digit d < 128
hex_digit_ascii d small = grind arith

pub hex_ascii : (bytes : List ℕ) → ((i : ℕ) → get_or bytes i 0 < 256) → IsAscii (hex bytes)
hex_ascii [] small = IsAscii-nil
hex_ascii (b ∷ bytes) small =
    let byte : b < 256 = small 0 in
    IsAscii-cons (hex_digit (b / 16)) (hex_digit (b % 16) ∷ hex bytes) (hex_digit_ascii (b / 16) (omega arith))
    (IsAscii-cons (hex_digit (b % 16)) (hex bytes) (hex_digit_ascii (b % 16) (omega arith)) (hex_ascii bytes (λ i. small (suc i))))

-- the digits up to `to`, after those up to `from`
pub hex_more : (bytes : List ℕ) (from to : ℕ) → from ≤ to → hex (take to bytes) ≡ hex (take from bytes) ++ hex (take (to - from) (drop from bytes))
hex_more bytes from to order =
    let whole : to ≡ from + (to - from) = omega arith in
    ap (λ (n : ℕ). hex (take n bytes)) whole ∙ ap hex (take-add from (to - from) bytes) ∙ flat_map-append hex_byte (take from bytes) (take (to - from) (drop from bytes))

-- the test of the first n places of the table
abbrev are_digits : ℕ → Bool
are_digits zero = true
are_digits (suc d) = eqb (get_or DIGITS d 0) (hex_digit d) && are_digits d

digit_below : (n d : ℕ) → are_digits n ≡ true → d < n → get_or DIGITS d 0 ≡ hex_digit d
digit_below zero d test below = absurd (omega arith)
digit_below (suc n) d test below =
    let parts = and_parts (eqb (get_or DIGITS n 0) (hex_digit n)) (are_digits n) test in
    elim (cases_lt d n) [
      | inl before ↦ digit_below n d parts.1 before
      | inr last ↦ let same : d ≡ n = omega arith in rw same (eqb-true _ _ parts.0)
    ]

-- the table has the digit of each number below 16
pub digit_at : (d : ℕ) → d < 16 → get_or DIGITS d 0 ≡ hex_digit d
digit_at d small = digit_below 16 d refl small

-- the digits of one more byte
pub put_step : (bytes text front : List ℕ) (at i : ℕ) → i < length bytes → at + 2 * i + 1 < length text → get_or bytes i 0 < 256
    → take (at + 2 * i) text ≡ front ++ hex (take i bytes)
    → take (at + 2 * (i + 1)) (set (set text (at + 2 * i) (get_or DIGITS (get_or bytes i 0 / 16) 0)) (at + 2 * i + 1) (get_or DIGITS (get_or bytes i 0 % 16) 0)) ≡ front ++ hex (take (i + 1) bytes)
put_step bytes text front at i inside fits small done =
    let b : ℕ = get_or bytes i 0 in
    let high = digit_at (b / 16) (omega arith) in
    let low = digit_at (b % 16) (omega arith) in
    let two : at + 2 * (i + 1) ≡ at + 2 * i + 1 + 1 = omega arith in
    let first = take_more_set text (at + 2 * i) (get_or DIGITS (b / 16) 0) (omega arith) in
    let second = take_more_set (set text (at + 2 * i) (get_or DIGITS (b / 16) 0)) (at + 2 * i + 1) (get_or DIGITS (b % 16) 0) (omega (arith, length-set text (at + 2 * i) (get_or DIGITS (b / 16) 0))) in
    let last = ap hex (take_more bytes i 0 inside) ∙ flat_map-append hex_byte (take i bytes) (b ∷ []) in
    ap (λ (n : ℕ). take n (set (set text (at + 2 * i) (get_or DIGITS (b / 16) 0)) (at + 2 * i + 1) (get_or DIGITS (b % 16) 0))) two
    ∙ second ∙ ap (λ (xs : List ℕ). xs ++ get_or DIGITS (b % 16) 0 ∷ []) (first ∙ ap (λ (xs : List ℕ). xs ++ get_or DIGITS (b / 16) 0 ∷ []) done)
    ∙ append_assoc (front ++ hex (take i bytes)) (get_or DIGITS (b / 16) 0 ∷ []) (get_or DIGITS (b % 16) 0 ∷ [])
    ∙ append_assoc front (hex (take i bytes)) (get_or DIGITS (b / 16) 0 ∷ get_or DIGITS (b % 16) 0 ∷ [])
    ∙ ap (λ (xs : List ℕ). front ++ xs) (ap (λ (d : ℕ). hex (take i bytes) ++ d ∷ get_or DIGITS (b % 16) 0 ∷ []) high ∙ ap (λ (d : ℕ). hex (take i bytes) ++ hex_digit (b / 16) ∷ d ∷ []) low ∙ sym last)
