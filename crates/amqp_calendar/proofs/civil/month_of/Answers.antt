use Rattle.std.proofs.Common.{◌≡◌, arith, to_z-of_z}
use Rattle.amqp_calendar.proofs.MonthLemmas.{one_more, all}
use Rattle.amqp_calendar.proofs.civil.month_of.Goals as goal

pub returns-clause-valid : goal.returns-clause-valid
returns-clause-valid c =
    let end : c.loop-month.month ≡ 12 = omega arith in
    let so_far = rw (to_z-of_z c.ranges.year) at (rw end at c.loop-month.invariant) in
    (omega arith, omega arith, omega arith, omega (arith, so_far, one_more c.args.year 12 (omega arith), all c.args.year))
