-- The date computed year by year and month by month is the date of the day.
use Rattle.std.proofs.Common.{◌≡◌, ℕ, zero, suc, ◌+◌, ◌-◌, ◌<◌, ◌≤◌, Bool, true, false, cond, nat_lt, nat_le, refl, arith, ℤ, pos, negsuc, ◌+ℤ◌, ◌-ℤ◌}
use Rattle.std.proofs.lemmas.Bool.Decides.{nat_tests}
use Rattle.amqp_calendar.specs.Years.{year_length, start}
use Rattle.amqp_calendar.specs.Dates.{month_length, months_before, IsDate, day_number}
use Rattle.amqp_calendar.specs.DateOf.{years_on, years_back, year_and_place, month_and_day, date_of}
use Rattle.amqp_calendar.proofs.SignedRules.{signed}
use Rattle.amqp_calendar.proofs.MonthLemmas.{none, one_more, all}
use Rattle.amqp_calendar.proofs.YearLemmas.{start_next, length_is, start_1970}
use Rattle.amqp_calendar.proofs.OneDate.{opened}
use borrow.Author.Differences.{up, down}

abbrev LiesOn : ℤ → ℕ → ℤ × ℕ → Type 0
LiesOn y n p = (up (start p.0) + p.1 + down (start y) ≡ down (start p.0) + up (start y) + n) × (p.1 < year_length p.0)

on_by : (k : ℕ) (y : ℤ) (n : ℕ) (b : Bool) → nat_lt n (year_length y) ≡ b → (year_length y ≤ n → LiesOn (y +ℤ pos 1) (n - year_length y) (years_on k (y +ℤ pos 1) (n - year_length y)))
    → LiesOn y n (cond b (y, n) (years_on k (y +ℤ pos 1) (n - year_length y)))
on_by k y n true e rec = let lt : n < year_length y = grind (arith, nat_tests) in (omega arith, lt)
on_by k y n false e rec =
    let le : year_length y ≤ n = grind (arith, nat_tests) in
    let r = rec le in
    (omega (arith, r.0, le, start_next y (y +ℤ pos 1) refl), r.1)

on_lies : (k : ℕ) (y : ℤ) (n : ℕ) → n ≤ k → LiesOn y n (years_on k y n)
unfolding years_on
on_lies zero y n h = (omega arith, omega (arith, length_is y))
on_lies (suc k) y n h = on_by k y n (nat_lt n (year_length y)) refl (λ le. on_lies k (y +ℤ pos 1) (n - year_length y) (omega (arith, length_is y)))

abbrev LiesBack : ℤ → ℕ → ℤ × ℕ → Type 0
LiesBack y n p = (up (start p.0) + p.1 + n + down (start y) ≡ down (start p.0) + up (start y)) × (p.1 < year_length p.0)

back_by : (k : ℕ) (y z : ℤ) (n : ℕ) (b : Bool) → y ≡ z +ℤ pos 1 → 1 ≤ n → nat_le n (year_length z) ≡ b → (year_length z < n → LiesBack z (n - year_length z) (years_back k z (n - year_length z)))
    → LiesBack y n (cond b (z, year_length z - n) (years_back k z (n - year_length z)))
back_by k y z n true is h e rec =
    let le : n ≤ year_length z = grind (arith, nat_tests) in
    (omega (arith, le, start_next z y is), omega (arith, le))
back_by k y z n false is h e rec =
    let lt : year_length z < n = grind (arith, nat_tests) in
    let r = rec lt in
    (omega (arith, r.0, lt, start_next z y is), r.1)

back_lies : (k : ℕ) (y : ℤ) (n : ℕ) → n ≤ k → 1 ≤ n → LiesBack y n (years_back k y n)
unfolding years_back
back_lies zero y n h low = absurd (omega arith)
back_lies (suc k) y n h low =
    back_by k y (y -ℤ pos 1) n (nat_le n (year_length (y -ℤ pos 1))) (omega (arith, signed)) low refl
    (λ lt. back_lies k (y -ℤ pos 1) (n - year_length (y -ℤ pos 1)) (omega (arith, lt, length_is (y -ℤ pos 1))) (omega (arith, lt)))

abbrev Falls : ℤ → ℕ → ℕ → ℕ × ℕ → Type 0
Falls y m n p = (months_before y (p.0 - 1) + (p.1 - 1) ≡ months_before y m + n) × IsDate y p.0 p.1

month_by : (k : ℕ) (y : ℤ) (m n : ℕ) (b : Bool) → m + suc k ≡ 11 → nat_lt n (month_length y (m + 1)) ≡ b → (month_length y (m + 1) ≤ n → Falls y (m + 1) (n - month_length y (m + 1)) (month_and_day k y (m + 1) (n - month_length y (m + 1))))
    → Falls y m n (cond b (m + 1, n + 1) (month_and_day k y (m + 1) (n - month_length y (m + 1))))
month_by k y m n true is e rec =
    let lt : n < month_length y (m + 1) = grind (arith, nat_tests) in
    let same : m + 1 - 1 ≡ m = omega arith in
    (rw same (omega arith), (omega arith, omega arith, omega arith, omega (arith, lt)))
month_by k y m n false is e rec =
    let le : month_length y (m + 1) ≤ n = grind (arith, nat_tests) in
    let r = rec le in
    let same : m + 1 - 1 ≡ m = omega arith in
    (omega (arith, r.0, le, rw same at (one_more y (m + 1) (omega arith))), r.1)

month_falls : (k : ℕ) (y : ℤ) (m n : ℕ) → m + k ≡ 11 → months_before y m + n < year_length y → Falls y m n (month_and_day k y m n)
unfolding month_and_day
month_falls zero y m n is h =
    let last : m ≡ 11 = omega arith in
    let h' = rw last at h in
    rw last (omega arith, (omega arith, omega arith, omega arith, omega (arith, h', one_more y 12 (omega arith), all y)))
month_falls (suc k) y m n is h =
    let same : m + 1 - 1 ≡ m = omega arith in
    month_by k y m n (nat_lt n (month_length y (m + 1))) is refl
    (λ le. month_falls k y (m + 1) (n - month_length y (m + 1)) (omega arith) (omega (arith, le, rw same at (one_more y (m + 1) (omega arith)))))

place : (day : ℤ) → let p = year_and_place day in (up (start p.0) + p.1 + down day ≡ down (start p.0) + up day) × (p.1 < year_length p.0)
place (pos n) = let r = on_lies n (pos 1970) n (omega arith) in (omega (arith, signed, r.0, start_1970), r.1)
place (negsuc n) = let r = back_lies (suc n) (pos 1970) (suc n) (omega arith) (omega arith) in (omega (arith, signed, r.0, start_1970), r.1)

pub date_of_is : (day : ℤ) → let p = date_of day in IsDate p.0 p.1 p.2 × (day_number p.0 p.1 p.2 ≡ day)
date_of_is day =
    let p = year_and_place day in
    let at = place day in
    let f = month_falls 11 p.0 0 p.1 (omega arith) (omega (arith, at.1, none p.0)) in
    let q = month_and_day 11 p.0 0 p.1 in
    (f.1, omega (arith, signed, at.0, f.0, none p.0, opened p.0 q.0 q.1))
