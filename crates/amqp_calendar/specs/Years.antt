-- The years of the proleptic Gregorian calendar with a year 0, and the first day of each.
use Rattle.std.specs.Prelude.{ℕ, zero, suc, ◌+◌, ◌%◌, Bool, not, ◌&&◌, ◌||◌, ◌==◌, if◌then◌else◌, ℤ, pos, negsuc, neg_ℤ, ◌+ℤ◌, ◌-ℤ◌, unsigned_abs}

-- divisible by 4 and not by 100, or divisible by 400
abbrev pub is_leap_year : ℤ → Bool
is_leap_year y =
    ((unsigned_abs y % 4 == 0) && not (unsigned_abs y % 100 == 0)) || (unsigned_abs y % 400 == 0)

-- the number of days in a year
abbrev pub year_length : ℤ → ℕ
year_length y = if is_leap_year y then 366 else 365

-- the number of days in the n years from y
unfoldable pub years_from : ℤ → ℕ → ℕ
years_from y zero = 0
years_from y (suc n) = years_from y n + year_length (y +ℤ pos n)

-- the number of days from the start of 1970 to the start of y, negative if y is before 1970; the
-- second argument is y - 1970
abbrev pub start_after : ℤ → ℤ → ℤ
start_after y (pos n) = pos (years_from (pos 1970) n)
start_after y (negsuc n) = neg_ℤ (pos (years_from y (suc n)))

-- the day number of the first day of a year: 0 for 1970
unfoldable pub start : ℤ → ℤ
start y = start_after y (y -ℤ pos 1970)
