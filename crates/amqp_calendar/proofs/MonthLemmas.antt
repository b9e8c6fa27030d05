-- The number of days before each month.
use Rattle.std.proofs.Common.{◌≡◌, ℕ, zero, suc, ◌+◌, ◌-◌, ◌≤◌, ℤ, refl, arith}
use Rattle.amqp_calendar.specs.Years.{year_length}
use Rattle.amqp_calendar.specs.Dates.{month_length, months_before, IsDate}

pub none : (y : ℤ) → months_before y 0 ≡ 0
unfolding months_before
none y = refl

pub one_more : (y : ℤ) (m : ℕ) → 1 ≤ m → months_before y m ≡ months_before y (m - 1) + month_length y m
unfolding months_before
one_more y zero h = absurd (omega arith)
one_more y (suc m) h = let back : suc m - 1 ≡ m = omega arith in rw back

pub all : (y : ℤ) → months_before y 12 ≡ year_length y
unfolding months_before
all y = grind arith

from_on : (y : ℤ) (m k : ℕ) → months_before y m ≤ months_before y (k + m)
from_on y m zero = let same : 0 + m ≡ m = omega arith in rw same (omega arith)
from_on y m (suc k) =
    let back : suc k + m - 1 ≡ k + m = omega arith in
    omega (arith, from_on y m k, rw back at (one_more y (suc k + m) (omega arith)))

pub later : (y : ℤ) (m n : ℕ) → m ≤ n → months_before y m ≤ months_before y n
later y m n h = let same : n - m + m ≡ n = omega arith in rw same at (from_on y m (n - m))

-- a day of a month precedes each later month
pub before_later : (y : ℤ) (m d n : ℕ) → IsDate y m d → m ≤ n → months_before y (m - 1) + d ≤ months_before y n
before_later y m d n h le = omega (arith, one_more y m h.0, later y m n le, h.3)

pub in_year : (y : ℤ) (m d : ℕ) → IsDate y m d → months_before y (m - 1) + d ≤ year_length y
in_year y m d h = omega (arith, before_later y m d 12 h h.1, all y)

pub ruleset months = (none, one_more, all)
