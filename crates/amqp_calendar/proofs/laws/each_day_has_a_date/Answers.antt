use Rattle.amqp_calendar.proofs.DateOfLemmas.{date_of_is}
use Rattle.amqp_calendar.proofs.laws.each_day_has_a_date.Goals as goal

pub returns : goal.returns
returns c = record { valid = λ day. (date_of_is day).0; value = λ day. (date_of_is day).1 }
