use Rattle.amqp_value.proofs.SoundLemmas.{sound-scalar, sound-described, sound-list, sound-map, sound-array}
use Rattle.amqp_value.proofs.laws.sound_parts_make_a_sound_value.Goals as goal

pub returns : goal.returns
returns c = record { scalar = sound-scalar; described = sound-described; list = sound-list; map = sound-map; array = sound-array }
