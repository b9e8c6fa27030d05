use Rattle.std.specs.String.{string_bytes}
use Rattle.amqp_de.proofs.TextKeys.{texts_equal}
use Rattle.amqp_ser.specs.Tree as tree
use Rattle.amqp_de.proofs.MapReadings.{leaves_apart}
use Rattle.amqp_de.proofs.impls.texts.StringDeserialize.have_distinct_trees.Goals as goal

pub returns : goal.returns
returns g c = leaves_apart tree.string (λ a b e. cc) (λ x. string_bytes x) _ (λ x y same. texts_equal (string_bytes x) (string_bytes y) same) c.keys_differ.result _ c.keys_differ.ensures
