use Rattle.std.proofs.Common.{ap, ◌∙◌}
use Rattle.amqp_value.specs.TreeOf.{tree_of}
use Rattle.amqp_value.proofs.TreeLemmas.{tree_of-Described}
use Rattle.amqp_visit.proofs.Reported.{accepted}
use Rattle.amqp_visit.proofs.deserializer.Deserializer.deserialize_described.Goals as goal

pub returns-in-Described-clause-invalid : goal.returns-in-Described-clause-invalid
returns-in-Described-clause-invalid g c =
    accepted c.visit_described.result
    (_, _, ap tree_of c.in-Described.is ∙ tree_of-Described c.in-Described.described)
