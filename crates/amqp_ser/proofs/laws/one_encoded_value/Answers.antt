use Rattle.amqp_ser.proofs.EncodedValue.{encoding_is_encoded}
use Rattle.amqp_ser.proofs.laws.one_encoded_value.Goals as goal

pub returns : goal.returns
returns c = encoding_is_encoded
