use Rattle.amqp_from_value.proofs.HasImageLemmas.{transparent_has_image}
use Rattle.amqp_from_value.proofs.laws.transparent_vectors_return.Goals as goal

pub returns : goal.returns
returns c = transparent_has_image
