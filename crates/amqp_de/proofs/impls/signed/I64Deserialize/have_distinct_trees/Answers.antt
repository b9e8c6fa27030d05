use Rattle.std.proofs.lemmas.Cmp.{int_eq_equiv}
use Rattle.amqp_ser.specs.Tree as tree
use Rattle.amqp_de.proofs.MapReadings.{leaves_apart}
use Rattle.amqp_de.proofs.impls.signed.I64Deserialize.have_distinct_trees.Goals as goal

pub returns : goal.returns
returns g c = leaves_apart tree.long (λ a b e. cc) (λ x. x) _ (λ x y same. rw same (int_eq_equiv.refl y)) c.ordered_keys_differ.result _ c.ordered_keys_differ.ensures
