use Rattle.amqp_frame.proofs.Cuts.{some-cut}
use Rattle.amqp_frame.proofs.laws.some_cut.Goals as goal

pub returns : goal.returns
returns c = some-cut
