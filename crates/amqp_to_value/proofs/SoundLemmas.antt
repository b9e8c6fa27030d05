-- The value that is returned for a tree is sound.
use Rattle.std.proofs.Common.{Option, Some, None, Result, Ok, Err, IfOk}
use Rattle.amqp_data.specs.declared.error.Error.{Error}
use Rattle.amqp_ser.specs.Tree.{Tree}
use Rattle.amqp_value.specs.Sound.{IsSound}
use Rattle.amqp_value.specs.declared.value.Value.{Value}
use Rattle.amqp_to_value.specs.ImageOf.{IsImageOf}
use Rattle.amqp_value.proofs.SoundLemmas.{sound-image}

pub answer_sound : (t : Option Tree) (r : Result Value Error) → IsImageOf t r → IfOk r IsSound
answer_sound None (Ok v) h = absurd h
answer_sound (Some t) (Ok v) h = sound-image h.0 v h.2
answer_sound None (Err e) h = tt
answer_sound (Some t) (Err e) h = tt
