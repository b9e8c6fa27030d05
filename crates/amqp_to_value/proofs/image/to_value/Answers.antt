use Rattle.std.proofs.Common.{Ok, rules}
use Rattle.amqp_to_value.specs.ImageOf.{IsImageOf}
use Rattle.amqp_to_value.proofs.SoundLemmas.{answer_sound}
use Rattle.amqp_to_value.proofs.image.to_value.Goals as goal

pub returns-clause-sound : goal.returns-clause-sound
returns-clause-sound g c =
    let image : IsImageOf (g.T.Serialize.tree c.args.value.now) (Ok c.in_ok-serialize.field-0) = search rules in
    answer_sound (g.T.Serialize.tree c.args.value.now) (Ok c.in_ok-serialize.field-0) image
