use Rattle.amqp_de.proofs.MapReadings.{values_apart}
use Rattle.amqp_de.proofs.impls.holders.ValueDeserialize.have_distinct_trees.Goals as goal

pub returns : goal.returns
returns g c = values_apart c.ordered_keys_differ.result _ c.ordered_keys_differ.ensures
