use Rattle.amqp_decode.proofs.OwnImage.{encoded-own_image}
use Rattle.amqp_decode.proofs.laws.encoded_trees_are_their_own_images.Goals as goal

pub returns : goal.returns
returns c d s t sp = encoded-own_image sp
