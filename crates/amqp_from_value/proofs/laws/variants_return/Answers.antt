use Rattle.amqp_from_value.proofs.HasImageLemmas.{fields_has_image, value_has_image}
use Rattle.amqp_from_value.proofs.laws.variants_return.Goals as goal

pub returns : goal.returns
returns c = record { value = value_has_image; fields = fields_has_image }
