use Rattle.amqp_frame.proofs.Cuts.{some-byte}
use Rattle.amqp_frame.proofs.laws.some_byte.Goals as goal

pub returns : goal.returns
returns c = some-byte
