use Rattle.amqp_value.proofs.Sameness.{equal-is_same}
use Rattle.amqp_value.proofs.laws.equality_is_of_contents.Goals as goal

pub returns : goal.returns
returns c = equal-is_same
