use Rattle.std.proofs.Common.{◌≡◌, ◌+◌, suc, sym, ◌∙◌, arith, w64, to_z-of_z}
use Rattle.amqp_calendar.specs.Dates.{IsDate, day_number}
use Rattle.amqp_calendar.proofs.SignedRules.{signed}
use Rattle.amqp_calendar.proofs.YearLemmas.{days_of-year}
use Rattle.amqp_calendar.proofs.OneDate.{day_number_is, one_date}
use Rattle.amqp_calendar.proofs.civil.civil_from_days.Goals as goal

pub month_of-month-requires : goal.month_of-month-requires
month_of-month-requires c =
    let year = c.year_number-year.result in
    let years = c.year_of-years.result.0 in
    let next : years + 1 ≡ suc years = omega arith in
    rw (to_z-of_z {w = w64} (record { sfits = c.year_number-year.type_inv })) (omega (arith, rw next at c.year_of-years.ensures.within, c.year_of-years.ensures.value, days_of-year year years (rw next at c.year_number-year.ensures)))

valid : (c : goal.After-month_of-month) → IsDate c.year_number-year.result c.month_of-month.result.0 c.month_of-month.result.1
valid c = rw (to_z-of_z {w = w64} (record { sfits = c.year_number-year.type_inv })) at c.month_of-month.ensures.valid

value : (c : goal.After-month_of-month) → day_number c.year_number-year.result c.month_of-month.result.0 c.month_of-month.result.1 ≡ c.args.days
value c =
    let years = c.year_of-years.result.0 in
    let next : years + 1 ≡ suc years = omega arith in
    let place = rw (to_z-of_z {w = w64} (record { sfits = c.year_number-year.type_inv })) at c.month_of-month.ensures.value in
    let count = rw (to_z-of_z c.ranges.days) at c.day_count.ensures.value in
    day_number_is c.year_number-year.result years c.month_of-month.result.0 c.month_of-month.result.1 c.args.days
    (rw next at c.year_number-year.ensures) (valid c).2 (omega (arith, signed, (valid c).2, place, c.year_of-years.ensures.value, count))

pub returns-clause-value : goal.returns-clause-value
returns-clause-value c = rw (to_z-of_z {w = w64} (record { sfits = c.year_number-year.type_inv })) (value c)

pub returns-clause-only : goal.returns-clause-only
returns-clause-only c y m d h is =
    rw (to_z-of_z {w = w64} (record { sfits = c.year_number-year.type_inv }))
    (one_date y m d c.year_number-year.result c.month_of-month.result.0 c.month_of-month.result.1 h (valid c) (is ∙ sym (value c)))
