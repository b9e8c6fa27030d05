use Rattle.amqp_visit.proofs.access.variant.VariantAccess.tuple_variant.Goals as goal

pub returns-in-Some-clause-visits : goal.returns-in-Some-clause-visits
returns-in-Some-clause-visits g c = rw c.in-Some.is c.deserialize_seq.ensures.visits
