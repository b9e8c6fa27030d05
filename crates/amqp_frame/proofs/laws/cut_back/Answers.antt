use Rattle.amqp_frame.proofs.Cuts.{cut-back}
use Rattle.amqp_frame.proofs.laws.cut_back.Goals as goal

pub returns : goal.returns
returns c = cut-back
