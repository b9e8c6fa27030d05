use Rattle.std.proofs.Common.{◌≡◌, ◌+◌, ◌-◌}
use Rattle.amqp_calendar.specs.Dates.{months_before}
use Rattle.amqp_calendar.proofs.civil.month_of.Given as goal

abbrev pub invariant-loop-month : goal.invariant-loop-month
invariant-loop-month l = l.left + months_before l.year (l.month - 1) ≡ l.fn.day
