use Rattle.amqp_ser.proofs.CutBack.{tree_cut}
use Rattle.amqp_ser.proofs.laws.encoded_values_alone.Goals as goal

pub returns : goal.returns
returns c = tree_cut
