-- Numbers padded with zeros.
use Rattle.std.proofs.Common.{◌≡◌, ℕ, ◌-◌, List, [], ◌++◌, length, replicate, false, ap, ◌∙◌, arith}
use Rattle.std.specs.Prelude.{decimal}
use Rattle.std.specs.Fmt.{padded_integral, styled_decimal, format_spec, char_count}
use Rattle.amqp_calendar.specs.Moment.{padded}
use Rattle.std.proofs.lemmas.List.{append-nil}

less : (w n : ℕ) → w - n - 0 - 0 ≡ w - n
less w n = omega arith

pads : (w : ℕ) (ds : List ℕ) → padded_integral (format_spec 32 0 4 w 18446744073709551615) false [] ds ≡ replicate (w - length ds) 48 ++ ds
unfolding padded_integral char_count
pads w ds = ap (λ k. replicate k 48 ++ (ds ++ [])) (less w (length ds)) ∙ ap (λ xs. replicate (w - length ds) 48 ++ xs) (append-nil ds)

pub two : (n : ℕ) → styled_decimal (format_spec 32 0 4 2 18446744073709551615) n ≡ padded 2 n
two n = pads 2 (decimal n)

pub three : (n : ℕ) → styled_decimal (format_spec 32 0 4 3 18446744073709551615) n ≡ padded 3 n
three n = pads 3 (decimal n)

pub four : (n : ℕ) → styled_decimal (format_spec 32 0 4 4 18446744073709551615) n ≡ padded 4 n
four n = pads 4 (decimal n)

pub six : (n : ℕ) → styled_decimal (format_spec 32 0 4 6 18446744073709551615) n ≡ padded 6 n
six n = pads 6 (decimal n)

pub ruleset padding = (two, three, four, six)
