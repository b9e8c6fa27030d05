use Rattle.amqp_value.proofs.SoundLemmas.{image-sound, sound-plain, plain-sound}
use Rattle.amqp_value.proofs.laws.sound_values_are_their_own_images.Goals as goal

pub returns : goal.returns
returns c = record { image = image-sound; plain = sound-plain; sound = plain-sound }
