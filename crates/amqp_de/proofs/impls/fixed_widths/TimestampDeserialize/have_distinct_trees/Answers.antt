use Rattle.std.proofs.lemmas.Cmp.{int_eq_equiv}
use Rattle.amqp_data.specs.Fixed.{milliseconds_of}
use Rattle.amqp_ser.specs.Tree as tree
use Rattle.amqp_de.proofs.MapReadings.{leaves_apart}
use Rattle.amqp_de.proofs.impls.fixed_widths.TimestampDeserialize.have_distinct_trees.Goals as goal

pub returns : goal.returns
returns g c = leaves_apart tree.timestamp (λ a b e. cc) milliseconds_of _ (λ x y same. rw same (int_eq_equiv.refl (milliseconds_of y))) c.ordered_keys_differ.result _ c.ordered_keys_differ.ensures
