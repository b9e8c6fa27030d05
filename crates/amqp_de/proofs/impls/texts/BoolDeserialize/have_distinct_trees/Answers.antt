use Rattle.std.specs.Cmp.{bool_eq_equiv}
use Rattle.amqp_ser.specs.Tree as tree
use Rattle.amqp_de.proofs.MapReadings.{leaves_apart}
use Rattle.amqp_de.proofs.impls.texts.BoolDeserialize.have_distinct_trees.Goals as goal

pub returns : goal.returns
returns g c = leaves_apart tree.bool (λ a b e. cc) (λ x. x) _ (λ x y same. rw same (bool_eq_equiv.refl y)) c.keys_differ.result _ c.keys_differ.ensures
