use Rattle.amqp_frame.proofs.Prefixes.{encoded-encoded}
use Rattle.amqp_frame.proofs.laws.one_value_at_a_place.Goals as goal

pub returns : goal.returns
returns c = encoded-encoded
