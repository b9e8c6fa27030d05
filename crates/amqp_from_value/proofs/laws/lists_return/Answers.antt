use Rattle.amqp_from_value.proofs.HasImageLemmas.{list_has_image}
use Rattle.amqp_from_value.proofs.laws.lists_return.Goals as goal

pub returns : goal.returns
returns c = list_has_image
