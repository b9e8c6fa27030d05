use Rattle.amqp_frame.proofs.Whole.{encoded_value_passes, passes_encoded_value}
use Rattle.amqp_frame.proofs.laws.one_test.Goals as goal

pub returns : goal.returns
returns c = λ bytes. (passes_encoded_value bytes, encoded_value_passes bytes)
