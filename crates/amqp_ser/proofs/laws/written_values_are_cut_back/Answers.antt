use Rattle.amqp_ser.proofs.CutBack.{written_cut}
use Rattle.amqp_ser.proofs.laws.written_values_are_cut_back.Goals as goal

pub returns : goal.returns
returns c = written_cut
