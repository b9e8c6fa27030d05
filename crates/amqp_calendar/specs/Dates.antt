-- Dates and their day numbers: day 0 is 1 January 1970.
use Rattle.std.specs.Prelude.{ℕ, zero, suc, ◌+◌, ◌-◌, ◌≤◌, ◌||◌, ◌==◌, if◌then◌else◌, ℤ, pos, ◌+ℤ◌}
use Rattle.amqp_calendar.specs.Years.{is_leap_year, start}

-- the number of days in a month: 30 in April, June, September and November
abbrev pub month_length : ℤ → ℕ → ℕ
month_length y m =
    if m == 2 then (if is_leap_year y then 29 else 28)
    else (if (m == 4) || (m == 6) || (m == 9) || (m == 11) then 30 else 31)

-- the number of days in the first n months of a year
unfoldable pub months_before : ℤ → ℕ → ℕ
months_before y zero = 0
months_before y (suc n) = months_before y n + month_length y (suc n)

-- a year, a month from 1 to 12, and a day of that month, counted from 1
abbrev pub IsDate : ℤ → ℕ → ℕ → Type 0
IsDate y m d = (1 ≤ m) × (m ≤ 12) × (1 ≤ d) × (d ≤ month_length y m)

-- the day number of a date
unfoldable pub day_number : ℤ → ℕ → ℕ → ℤ
day_number y m d = start y +ℤ pos (months_before y (m - 1) + (d - 1))
