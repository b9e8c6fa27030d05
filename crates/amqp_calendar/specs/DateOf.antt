-- The date of a day, computed year by year and month by month. A law states that it is the only
-- date of that day.
use Rattle.std.specs.Prelude.{ℕ, zero, suc, ◌+◌, ◌-◌, ℤ, pos, negsuc, ◌+ℤ◌, ◌-ℤ◌, nat_lt, nat_le, if◌then◌else◌}
use Rattle.amqp_calendar.specs.Years.{year_length}
use Rattle.amqp_calendar.specs.Dates.{month_length}

-- the year of the day n days after the start of y, and the number of days before it in that year,
-- in at most the given number of steps
unfoldable pub years_on : ℕ → ℤ → ℕ → ℤ × ℕ
years_on zero y n = (y, n)
years_on (suc steps) y n = if nat_lt n (year_length y) then (y, n) else years_on steps (y +ℤ pos 1) (n - year_length y)

-- the same for the day n days before the start of y
unfoldable pub years_back : ℕ → ℤ → ℕ → ℤ × ℕ
years_back zero y n = (y, n)
years_back (suc steps) y n =
    if nat_le n (year_length (y -ℤ pos 1)) then (y -ℤ pos 1, year_length (y -ℤ pos 1) - n)
    else years_back steps (y -ℤ pos 1) (n - year_length (y -ℤ pos 1))

abbrev pub year_and_place : ℤ → ℤ × ℕ
year_and_place (pos n) = years_on n (pos 1970) n
year_and_place (negsuc n) = years_back (suc n) (pos 1970) (suc n)

-- the month of the day n days after the end of month m, and the day of that month
unfoldable pub month_and_day : ℕ → ℤ → ℕ → ℕ → ℕ × ℕ
month_and_day zero y m n = (m + 1, n + 1)
month_and_day (suc steps) y m n =
    if nat_lt n (month_length y (m + 1)) then (m + 1, n + 1) else month_and_day steps y (m + 1) (n - month_length y (m + 1))

-- year, month and day
abbrev pub date_of : ℤ → ℤ × ℕ × ℕ
date_of day =
    let p = year_and_place day in let q = month_and_day 11 p.0 0 p.1 in (p.0, q.0, q.1)
