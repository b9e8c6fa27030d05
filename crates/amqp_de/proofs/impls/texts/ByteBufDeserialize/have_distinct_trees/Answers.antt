use Rattle.amqp_data.specs.Items.{byte_buf_bytes}
use Rattle.amqp_de.proofs.TextKeys.{texts_equal}
use Rattle.amqp_ser.specs.Tree as tree
use Rattle.amqp_de.proofs.MapReadings.{leaves_apart}
use Rattle.amqp_de.proofs.impls.texts.ByteBufDeserialize.have_distinct_trees.Goals as goal

pub returns : goal.returns
returns g c = leaves_apart tree.binary (λ a b e. cc) byte_buf_bytes _ (λ x y same. texts_equal (byte_buf_bytes x) (byte_buf_bytes y) same) c.keys_differ.result _ c.keys_differ.ensures
