use Rattle.std.proofs.Common.{ap, ◌∙◌}
use Rattle.amqp_ser.specs.Tree as tree
use Rattle.amqp_value.specs.TreeOf.{tree_of}
use Rattle.amqp_value.proofs.BackLemmas.{binary_tree}
use Rattle.amqp_visit.proofs.Reported.{by_scalar}
use Rattle.amqp_visit.proofs.deserializer.Deserializer.deserialize_byte_buf.Goals as goal

pub returns-in-Binary-clause-visits : goal.returns-in-Binary-clause-visits
returns-in-Binary-clause-visits g c =
    by_scalar (g.V.Visitor.gives c.args.visitor) (g.V.Visitor.represents c.args.visitor) g.V.Visitor.same
    (tree_of c.args.self.value) c.visit_byte_buf.result tree.binary _
    (ap tree_of c.in-Binary.is ∙ binary_tree c.in-Binary.value) c.visit_byte_buf.ensures
