use Rattle.amqp_frame.proofs.Cuts.{one-cut}
use Rattle.amqp_frame.proofs.laws.one_cut.Goals as goal

pub returns : goal.returns
returns c = one-cut
