use Rattle.std.proofs.Common.{subst}
use Rattle.amqp_to_value.specs.HeldImages.{HoldsImages}
use Rattle.amqp_to_value.proofs.HeldImagesLemmas.{item_taken, pair_taken}
use Rattle.amqp_to_value.proofs.parts.CollectedParts.add_part.Goals as goal

pub returns-in-List-clause-step : goal.returns-in-List-clause-step
returns-in-List-clause-step c = λ ts t h e. item_taken _ _ _ c.args.part ts t c.gather.ensures (subst (λ o. HoldsImages o ts) c.in-List.is h) e

pub returns-in-Array-clause-step : goal.returns-in-Array-clause-step
returns-in-Array-clause-step c = λ ts t h e. item_taken _ _ _ c.args.part ts t c.gather-in-Array.ensures (subst (λ o. HoldsImages o ts) c.in-Array.is h) e

pub returns-in-Transparent-clause-step : goal.returns-in-Transparent-clause-step
returns-in-Transparent-clause-step c = λ ts t h e. item_taken _ _ _ c.args.part ts t c.gather-in-Transparent.ensures (subst (λ o. HoldsImages o ts) c.in-Transparent.is h) e

pub returns-in-Map-clause-step : goal.returns-in-Map-clause-step
returns-in-Map-clause-step c = λ ts t h e. pair_taken _ _ _ c.args.part ts t c.add_part.ensures (subst (λ o. HoldsImages o ts) c.in-Map.is h) e

pub returns-in-Variant-clause-step : goal.returns-in-Variant-clause-step
returns-in-Variant-clause-step c = λ ts t h e. item_taken _ _ _ c.args.part ts t c.gather_field.ensures (subst (λ o. HoldsImages o ts) c.in-Variant.is h) e

pub returns-in-NewtypeVariant-clause-step : goal.returns-in-NewtypeVariant-clause-step
returns-in-NewtypeVariant-clause-step c = λ ts t h e. item_taken _ _ _ c.args.part ts t c.gather_field-in-NewtypeVariant.ensures (subst (λ o. HoldsImages o ts) c.in-NewtypeVariant.is h) e
