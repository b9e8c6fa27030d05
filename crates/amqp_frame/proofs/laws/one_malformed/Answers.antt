use Rattle.amqp_frame.proofs.Prefixes.{malformed-malformed}
use Rattle.amqp_frame.proofs.laws.one_malformed.Goals as goal

pub returns : goal.returns
returns c = malformed-malformed
