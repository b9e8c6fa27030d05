use Rattle.amqp_de.proofs.TextKeys.{texts_equal}
use Rattle.amqp_data.specs.Fixed.{uuid_bytes}
use Rattle.amqp_ser.specs.Tree as tree
use Rattle.amqp_de.proofs.MapReadings.{leaves_apart}
use Rattle.amqp_de.proofs.impls.fixed_widths.UuidDeserialize.have_distinct_trees.Goals as goal

pub returns : goal.returns
returns g c = leaves_apart tree.uuid (λ a b e. cc) uuid_bytes _ (λ x y same. texts_equal (uuid_bytes x) (uuid_bytes y) same) c.ordered_keys_differ.result _ c.ordered_keys_differ.ensures
