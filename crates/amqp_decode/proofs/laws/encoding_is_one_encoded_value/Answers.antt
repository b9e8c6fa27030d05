use Rattle.amqp_decode.proofs.EncodedValues.{one-value}
use Rattle.amqp_decode.proofs.laws.encoding_is_one_encoded_value.Goals as goal

pub returns : goal.returns
returns c d s t sp = one-value sp
