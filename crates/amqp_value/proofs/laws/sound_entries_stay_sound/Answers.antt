use Rattle.amqp_value.proofs.SoundLemmas.{sound-entries, sound-inserted}
use Rattle.amqp_value.proofs.laws.sound_entries_stay_sound.Goals as goal

pub returns : goal.returns
returns c = record { none = tt; insert = sound-inserted; distinct = sound-entries }
