-- Numbers of a fixed number of digits.
use Rattle.std.proofs.Common.{◌≡◌, ℕ, ◌+◌, ◌/◌, ◌%◌, ◌<◌, ◌≤◌, List, [], ◌∷◌, ◌++◌, length, take, set, length-set, append_assoc, inl, inr, refl, ap, ◌∙◌, arith}
use Rattle.std.specs.Prelude.{decimal}
use Rattle.std.proofs.lemmas.Bool.{cases_lt}
use Rattle.std.proofs.lemmas.List.{take_more_set}
use Rattle.std.proofs.lemmas.Str.{IsAscii-append}
use Rattle.std.proofs.lemmas.Str.Ascii.{IsAscii-nil, IsAscii-cons}
use Rattle.std.specs.Prelude.{IsAscii}
use Rattle.std.proofs.lemmas.Fmt.{decimal_digit, decimal_step}
use Rattle.amqp_calendar.specs.Moment.{padded}

-- the two digits of a number below 100
abbrev pub two_digits : ℕ → List ℕ
two_digits n = (48 + n / 10) ∷ (48 + n % 10) ∷ []

decimal_two : (n : ℕ) → 10 ≤ n → n < 100 → decimal n ≡ two_digits n
decimal_two n low high = rw (decimal_step n low (omega arith), decimal_digit (n / 10) (omega arith)) refl

decimal_three : (n : ℕ) → 100 ≤ n → n < 1000 → decimal n ≡ two_digits (n / 10) ++ (48 + n % 10) ∷ []
decimal_three n low high = rw (decimal_step n (omega arith) (omega arith), decimal_two (n / 10) (omega arith) (omega arith)) refl

decimal_four : (n : ℕ) → 1000 ≤ n → n < 10000 → decimal n ≡ (two_digits (n / 10 / 10) ++ (48 + n / 10 % 10) ∷ []) ++ (48 + n % 10) ∷ []
decimal_four n low high = rw (decimal_step n (omega arith) (omega arith), decimal_three (n / 10) (omega arith) (omega arith)) refl

pub padded_two : (n : ℕ) → n < 100 → padded 2 n ≡ two_digits n
padded_two n small =
    elim (cases_lt n 10) [
      | inl one ↦ let zero : 48 ≡ 48 + n / 10 = omega arith in let last : 48 + n ≡ 48 + n % 10 = omega arith in rw (decimal_digit n one) (ap (λ (d : ℕ). d ∷ (48 + n) ∷ []) zero ∙ ap (λ (d : ℕ). (48 + n / 10) ∷ d ∷ []) last)
      | inr two ↦ rw (decimal_two n two small) refl
    ]

same_three : (a b c x y z : ℕ) → a ≡ x → b ≡ y → c ≡ z → a ∷ b ∷ c ∷ [] ≡ x ∷ y ∷ z ∷ []
same_three a b c x y z p q r = rw (p, q, r) refl

same_four : (a b c d x y z w : ℕ) → a ≡ x → b ≡ y → c ≡ z → d ≡ w → a ∷ b ∷ c ∷ d ∷ [] ≡ x ∷ y ∷ z ∷ w ∷ []
same_four a b c d x y z w p q r s = rw (p, q, r, s) refl

pub padded_three : (n : ℕ) → n < 1000 → padded 3 n ≡ two_digits (n / 10) ++ (48 + n % 10) ∷ []
padded_three n small =
    elim (cases_lt n 10) [
      | inl one ↦ rw (decimal_digit n one) (same_three _ _ _ _ _ _ (omega arith) (omega arith) (omega arith))
      | inr more ↦ elim (cases_lt n 100) [
        | inl two ↦ rw (decimal_two n more two) (same_three _ _ _ _ _ _ (omega arith) (omega arith) (omega arith))
        | inr three ↦ rw (decimal_three n three small) refl
      ]
    ]

pub padded_four : (n : ℕ) → n < 10000 → padded 4 n ≡ two_digits (n / 100) ++ two_digits (n % 100)
padded_four n small =
    elim (cases_lt n 10) [
      | inl one ↦ rw (decimal_digit n one) (same_four _ _ _ _ _ _ _ _ (omega arith) (omega arith) (omega arith) (omega arith))
      | inr more ↦ elim (cases_lt n 100) [
        | inl two ↦ rw (decimal_two n more two) (same_four _ _ _ _ _ _ _ _ (omega arith) (omega arith) (omega arith) (omega arith))
        | inr three ↦ elim (cases_lt n 1000) [
          | inl exact ↦ rw (decimal_three n three exact) (same_four _ _ _ _ _ _ _ _ (omega arith) (omega arith) (omega arith) (omega arith))
          | inr four ↦ rw (decimal_four n four small) (same_four _ _ _ _ _ _ _ _ (omega arith) (omega arith) (omega arith) (omega arith))
        ]
      ]
    ]

-- two bytes, put after what stands before them
pub two_puts : (xs : List ℕ) (at a b : ℕ) → at + 1 < length xs → take (at + 2) (set (set xs at a) (at + 1) b) ≡ take at xs ++ a ∷ b ∷ []
two_puts xs at a b fits =
    let two : at + 2 ≡ at + 1 + 1 = omega arith in
    ap (λ (n : ℕ). take n (set (set xs at a) (at + 1) b)) two
    ∙ take_more_set (set xs at a) (at + 1) b (omega (arith, length-set xs at a))
    ∙ ap (λ (ys : List ℕ). ys ++ b ∷ []) (take_more_set xs at a (omega arith)) ∙ append_assoc (take at xs) (a ∷ []) (b ∷ [])

-- the digits of a small number
pub IsAscii-two : (n : ℕ) → n < 100 → IsAscii (two_digits n)
IsAscii-two n small =
    IsAscii-cons (48 + n / 10) ((48 + n % 10) ∷ []) (omega arith) (IsAscii-cons (48 + n % 10) [] (omega arith) IsAscii-nil)

pub IsAscii-padded_two : (n : ℕ) → n < 100 → IsAscii (padded 2 n)
IsAscii-padded_two n small = rw (padded_two n small) (IsAscii-two n small)

-- what follows the seconds
pub millis_text : (n : ℕ) → n < 1000 → 46 ∷ (padded 2 (n / 10) ++ (48 + n % 10) ∷ 90 ∷ []) ≡ 46 ∷ (padded 3 n ++ 90 ∷ [])
millis_text n small =
    rw (padded_two (n / 10) (omega arith), padded_three n small) refl

pub IsAscii-millis : (n : ℕ) → n < 1000 → IsAscii (46 ∷ (padded 3 n ++ 90 ∷ []))
IsAscii-millis n small =
    rw (padded_three n small)
    (IsAscii-cons 46 ((two_digits (n / 10) ++ (48 + n % 10) ∷ []) ++ 90 ∷ []) (omega arith) (IsAscii-append (two_digits (n / 10) ++ (48 + n % 10) ∷ []) (90 ∷ [])
    (IsAscii-append (two_digits (n / 10)) ((48 + n % 10) ∷ []) (IsAscii-two (n / 10) (omega arith)) (IsAscii-cons (48 + n % 10) [] (omega arith) IsAscii-nil))
    (IsAscii-cons 90 [] (omega arith) IsAscii-nil)))
