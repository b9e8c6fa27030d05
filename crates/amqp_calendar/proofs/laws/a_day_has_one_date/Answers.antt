use Rattle.amqp_calendar.proofs.OneDate.{one_date}
use Rattle.amqp_calendar.proofs.laws.a_day_has_one_date.Goals as goal

pub returns : goal.returns
returns c = one_date
