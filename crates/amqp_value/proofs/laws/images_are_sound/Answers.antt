use Rattle.amqp_value.proofs.SoundLemmas.{sound-image}
use Rattle.amqp_value.proofs.laws.images_are_sound.Goals as goal

pub returns : goal.returns
returns c = sound-image
