use Rattle.std.proofs.Common.{subst}
use Rattle.amqp_to_value.specs.HeldImages.{HoldsImages, then}
use Rattle.amqp_to_value.proofs.HeldImagesLemmas.{key_back}
use Rattle.amqp_to_value.proofs.parts.CollectedParts.undo.Goals as goal

pub returns-in-Map-clause-back : goal.returns-in-Map-clause-back
returns-in-Map-clause-back c = λ ts ps t p m h. key_back ts ps t _ _ p (subst (λ o. HoldsImages o (then ts t)) c.in-Map.is h) c.undo.ensures
