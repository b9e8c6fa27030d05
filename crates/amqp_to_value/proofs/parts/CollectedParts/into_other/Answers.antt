use Rattle.std.proofs.Common.{subst, Some}
use Rattle.amqp_to_value.specs.HeldImages.{HoldsImages, compound_tree, RefusesOpened}
use Rattle.amqp_to_value.specs.declared.value_error.ValueError.TheVariants.{InvalidValue}
use Rattle.std.proofs.Common.{sym}
use Rattle.amqp_to_value.proofs.HeldImagesLemmas.{not_one}
use Rattle.amqp_to_value.proofs.parts.CollectedParts.into_other.Goals as goal

pub returns-in-None : goal.returns-in-None
returns-in-None c = λ ts h. subst (λ o. RefusesOpened InvalidValue (compound_tree o (Some ts))) (sym c.in-NewtypeVariant.is)
    (not_one c.in-NewtypeVariant.items.items ts c.in-NewtypeVariant.index (subst (λ o. HoldsImages o ts) c.in-NewtypeVariant.is h) c.in-None.ensures)
