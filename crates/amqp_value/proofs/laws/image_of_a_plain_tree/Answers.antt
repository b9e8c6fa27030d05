use Rattle.amqp_value.proofs.ImageLemmas.{image-plain}
use Rattle.amqp_value.proofs.laws.image_of_a_plain_tree.Goals as goal

pub returns : goal.returns
returns c = image-plain
