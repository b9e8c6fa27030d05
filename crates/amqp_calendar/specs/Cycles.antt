-- Years counted from the year 1, or from a year that is a multiple of 400 years before the year 1.
use Rattle.std.specs.Prelude.{ℕ, ◌+◌, ◌-◌, ◌*◌, ◌/◌}

-- the number of days in the first n such years
abbrev pub days_of : ℕ → ℕ
days_of n = 365 * n + n / 4 - n / 100 + n / 400
