use Rattle.std.proofs.Common.{ap, ◌∙◌}
use Rattle.amqp_value.specs.TreeOf.{tree_of}
use Rattle.amqp_value.proofs.BackLemmas.{float_tree}
use Rattle.amqp_visit.proofs.Reported.{accepted}
use Rattle.amqp_visit.proofs.deserializer.Deserializer.deserialize_f32.Goals as goal

pub returns-in-Float-clause-invalid : goal.returns-in-Float-clause-invalid
returns-in-Float-clause-invalid g c =
    accepted c.visit_f32.result (_, ap tree_of c.in-Float.is ∙ float_tree c.in-Float.value)
