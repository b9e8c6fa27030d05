-- The text of a timestamp, given in milliseconds since the Unix epoch.
use Rattle.std.specs.Prelude.{ℕ, ◌+◌, ◌-◌, ◌/◌, ◌%◌, List, ◌∷◌, ◌++◌, length, nat_le, codes, decimal, replicate, if◌then◌else◌, ℤ, pos, negsuc, unsigned_abs}
use Rattle.std.specs.Int.{int_div_euclid, int_rem_euclid}
use Rattle.amqp_calendar.specs.DateOf.{date_of}

-- a number with at least `width` digits, padded with leading zeros
abbrev pub padded : ℕ → ℕ → List ℕ
padded width n = replicate (width - length (decimal n)) 48 ++ decimal n

-- four digits for a year from 0 to 9999, otherwise a sign and at least six digits
abbrev pub year_text : ℤ → List ℕ
year_text (pos n) = if nat_le n 9999 then padded 4 n else 43 ∷ padded 6 n
year_text (negsuc n) = 45 ∷ padded 6 (n + 1)

-- the time of day, given in milliseconds since midnight: `Thh:mm:ss.mmmZ`
abbrev pub time_text : ℕ → List ℕ
time_text ms =
    codes "T" ++ (padded 2 (ms / 3_600_000) ++ (codes ":" ++ (padded 2 (ms / 60_000 % 60) ++ (codes ":" ++ (padded 2 (ms / 1_000 % 60) ++ (codes "." ++ (padded 3 (ms % 1_000) ++ codes "Z")))))))

-- a date and the time of that day
abbrev pub date_and_time_text : ℤ → ℕ → ℕ → ℕ → List ℕ
date_and_time_text y m d time = year_text y ++ (codes "-" ++ (padded 2 m ++ (codes "-" ++ (padded 2 d ++ time_text time))))

-- the date of the day that contains the millisecond, and the time of that day
abbrev pub moment_text : ℤ → List ℕ
moment_text ms =
    let p = date_of (int_div_euclid ms (pos 86_400_000)) in date_and_time_text p.0 p.1 p.2 (unsigned_abs (int_rem_euclid ms (pos 86_400_000)))
