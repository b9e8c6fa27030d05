use Rattle.amqp_data.specs.Text.{symbol_text}
use Rattle.amqp_de.proofs.TextKeys.{texts_equal}
use Rattle.amqp_ser.specs.Tree as tree
use Rattle.amqp_de.proofs.MapReadings.{leaves_apart}
use Rattle.amqp_de.proofs.impls.texts.SymbolDeserialize.have_distinct_trees.Goals as goal

pub returns : goal.returns
returns g c = leaves_apart tree.symbol (λ a b e. cc) symbol_text _ (λ x y same. texts_equal (symbol_text x) (symbol_text y) same) c.keys_differ.result _ c.keys_differ.ensures
