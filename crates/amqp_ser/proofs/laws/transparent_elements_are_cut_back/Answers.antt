use Rattle.amqp_ser.proofs.CutBack.{transparent_cut}
use Rattle.amqp_ser.proofs.laws.transparent_elements_are_cut_back.Goals as goal

pub returns : goal.returns
returns c = transparent_cut
