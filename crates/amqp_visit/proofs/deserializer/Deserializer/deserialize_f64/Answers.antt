use Rattle.std.proofs.Common.{ap, ◌∙◌}
use Rattle.amqp_value.specs.TreeOf.{tree_of}
use Rattle.amqp_value.proofs.BackLemmas.{double_tree}
use Rattle.amqp_visit.proofs.Reported.{accepted}
use Rattle.amqp_visit.proofs.deserializer.Deserializer.deserialize_f64.Goals as goal

pub returns-in-Double-clause-invalid : goal.returns-in-Double-clause-invalid
returns-in-Double-clause-invalid g c =
    accepted c.visit_f64.result (_, ap tree_of c.in-Double.is ∙ double_tree c.in-Double.value)
