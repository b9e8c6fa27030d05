-- The first day of each year, computed year by year and by cycles.
use Rattle.std.proofs.Common.{◌≡◌, ℕ, zero, suc, ◌+◌, ◌*◌, ◌≤◌, cond, refl, sym, ap, ◌∙◌, arith, ℤ, pos, negsuc, ◌+ℤ◌, ◌-ℤ◌}
use Rattle.std.proofs.lemmas.Bool.Decides.{nat_tests}
use Rattle.amqp_calendar.specs.Years.{is_leap_year, year_length, years_from, start, start_after}
use Rattle.amqp_calendar.specs.Cycles.{days_of}
use Rattle.amqp_calendar.proofs.SignedRules.{signed}
use borrow.Author.Differences.{up, down}

abbrev pub leap_day : ℤ → ℕ
leap_day y = cond (is_leap_year y) 1 0

pub length_is : (y : ℤ) → year_length y ≡ 365 + leap_day y
length_is y = grind arith

-- the leap year rule is unchanged if years are counted from a multiple of 400
leap_shift : (y : ℤ) (n : ℕ) → y +ℤ pos 292_280_000 ≡ pos n → leap_day y ≡ leap_day (pos n)
leap_shift (pos a) n e = let h : a + 292_280_000 ≡ n = omega (arith, signed) in grind (arith, nat_tests)
leap_shift (negsuc a) n e = let h : n + suc a ≡ 292_280_000 = omega (arith, signed) in grind (arith, nat_tests)

days_of-suc : (n : ℕ) → days_of (suc n) ≡ days_of n + 365 + leap_day (pos (suc n))
days_of-suc n = grind (arith, nat_tests)

pub days_of-year : (y : ℤ) (n : ℕ) → y +ℤ pos 292_280_000 ≡ pos (suc n) → days_of (suc n) ≡ days_of n + year_length y
days_of-year y n e = omega (arith, days_of-suc n, leap_shift y (suc n) e, length_is y)

years_from-suc : (y : ℤ) (k : ℕ) → years_from y (suc k) ≡ years_from y k + year_length (y +ℤ pos k)
unfolding years_from
years_from-suc y k = refl

years_from-zero : (y : ℤ) → years_from y 0 ≡ 0
unfolding years_from
years_from-zero y = refl

by_cycles : (y : ℤ) (n k : ℕ) → y +ℤ pos 292_280_000 ≡ pos (suc n) → years_from y k + days_of n ≡ days_of (k + n)
by_cycles y n zero e = let same : 0 + n ≡ n = omega arith in rw same (omega (arith, years_from-zero y))
by_cycles y n (suc k) e =
    let next : suc k + n ≡ suc (k + n) = omega arith in
    let here : (y +ℤ pos k) +ℤ pos 292_280_000 ≡ pos (suc (k + n)) = omega (arith, signed) in
    rw next (omega (arith, by_cycles y n k e, years_from-suc y k, days_of-year (y +ℤ pos k) (k + n) here))

abbrev epoch : ℕ
epoch = 730_700 * 146_097 + 719_162

at_epoch : days_of 292_281_969 ≡ epoch
at_epoch = refl

start_by : (y z : ℤ) (n : ℕ) → y -ℤ pos 1970 ≡ z → y +ℤ pos 292_280_000 ≡ pos (suc n) → up (start_after y z) + epoch ≡ down (start_after y z) + days_of n
start_by y (pos k) n e h =
    let same : k + 292_281_969 ≡ n = omega (arith, signed) in
    omega (arith, rw same at (by_cycles (pos 1970) 292_281_969 k refl), at_epoch)
start_by y (negsuc k) n e h =
    let same : suc k + n ≡ 292_281_969 = omega (arith, signed) in
    omega (arith, signed, rw same at (by_cycles y n (suc k) h), at_epoch)

pub start_is : (y : ℤ) (n : ℕ) → y +ℤ pos 292_280_000 ≡ pos (suc n) → up (start y) + epoch ≡ down (start y) + days_of n
unfolding start
start_is y n h = start_by y (y -ℤ pos 1970) n refl h

-- the days of some years are those of the first year and those of the others
from_prefix : (y z : ℤ) (n : ℕ) → z ≡ y +ℤ pos 1 → years_from y (suc n) ≡ year_length y + years_from z n
from_prefix y z zero e =
    let same : y +ℤ pos 0 ≡ y = omega (arith, signed) in
    omega (arith, rw same at (years_from-suc y 0), years_from-zero y, years_from-zero z)
from_prefix y z (suc n) e =
    let same : y +ℤ pos (suc n) ≡ z +ℤ pos n = omega (arith, signed) in
    omega (arith, rw same at (years_from-suc y (suc n)), from_prefix y z n e, years_from-suc z n)

next_by : (y z a b : ℤ) → z ≡ y +ℤ pos 1 → y -ℤ pos 1970 ≡ a → z -ℤ pos 1970 ≡ b → up (start_after z b) + down (start_after y a) ≡ down (start_after z b) + up (start_after y a) + year_length y
next_by y z (pos k) (pos m) e ha hb =
    let next : m ≡ suc k = omega (arith, signed) in
    let here : pos 1970 +ℤ pos k ≡ y = omega (arith, signed) in
    let more : years_from (pos 1970) (suc k) ≡ years_from (pos 1970) k + year_length y = years_from-suc (pos 1970) k ∙ ap (λ w. years_from (pos 1970) k + year_length w) here in
    rw next (omega (arith, more))
next_by y z (pos k) (negsuc m) e ha hb = absurd (omega (arith, signed))
next_by y z (negsuc k) (pos m) e ha hb =
    let one : k ≡ 0 = omega (arith, signed) in
    let first : m ≡ 0 = omega (arith, signed) in
    rw (one, first) (omega (arith, signed, from_prefix y z 0 e, years_from-zero z, years_from-zero (pos 1970)))
next_by y z (negsuc k) (negsuc m) e ha hb =
    let next : k ≡ suc m = omega (arith, signed) in
    rw next (omega (arith, signed, from_prefix y z (suc m) e))

-- the next year starts after the days of this year
pub start_next : (y z : ℤ) → z ≡ y +ℤ pos 1 → up (start z) + down (start y) ≡ down (start z) + up (start y) + year_length y
unfolding start
start_next y z e = next_by y z (y -ℤ pos 1970) (z -ℤ pos 1970) e refl refl

pub start_later : (y z : ℤ) (k : ℕ) → z ≡ y +ℤ pos (suc k) → down (start z) + up (start y) + year_length y ≤ up (start z) + down (start y)
start_later y z zero e = omega (arith, start_next y z e)
start_later y z (suc k) e =
    let before : y +ℤ pos (suc k) +ℤ pos 1 ≡ z = omega (arith, signed) in
    omega (arith, start_later y (y +ℤ pos (suc k)) k refl, start_next (y +ℤ pos (suc k)) z (sym before))

pub start_1970 : start (pos 1970) ≡ pos 0
unfolding start years_from
start_1970 = refl
