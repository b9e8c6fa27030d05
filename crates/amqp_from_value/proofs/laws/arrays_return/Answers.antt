use Rattle.amqp_from_value.proofs.HasImageLemmas.{array_has_image}
use Rattle.amqp_from_value.proofs.laws.arrays_return.Goals as goal

pub returns : goal.returns
returns c = array_has_image
