use Rattle.amqp_from_value.proofs.HasImageLemmas.{described_has_image}
use Rattle.amqp_from_value.proofs.laws.described_return.Goals as goal

pub returns : goal.returns
returns c = described_has_image
