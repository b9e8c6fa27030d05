use Rattle.std.proofs.Common.{ap, ◌∙◌}
use Rattle.amqp_ser.specs.Tree as tree
use Rattle.amqp_value.specs.TreeOf.{tree_of}
use Rattle.amqp_value.proofs.BackLemmas.{string_tree}
use Rattle.amqp_visit.proofs.Reported.{by_scalar}
use Rattle.amqp_visit.proofs.deserializer.Deserializer.deserialize_string.Goals as goal

pub returns-in-String-clause-visits : goal.returns-in-String-clause-visits
returns-in-String-clause-visits g c =
    by_scalar (g.V.Visitor.gives c.args.visitor) (g.V.Visitor.represents c.args.visitor) g.V.Visitor.same
    (tree_of c.args.self.value) c.visit_string.result tree.string _
    (ap tree_of c.in-String.is ∙ string_tree c.in-String.value) c.visit_string.ensures
