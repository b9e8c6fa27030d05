use Rattle.amqp_ser.proofs.Bools.{left_true}
use Rattle.amqp_ser.proofs.Lengths.{within_length}
use Rattle.amqp_ser.proofs.laws.written_lengths_fit.Goals as goal

pub returns : goal.returns
returns c = λ t r h. within_length t r (left_true _ _ h)
