use Rattle.amqp_visit.proofs.deserializer.Deserializer.deserialize_newtype_struct.Goals as goal

pub returns-clause-visits : goal.returns-clause-visits
returns-clause-visits g c = rw c.marker_read.ensures at c.deserialize_marked.ensures.visits

pub returns-clause-invalid : goal.returns-clause-invalid
returns-clause-invalid g c = rw c.marker_read.ensures at c.deserialize_marked.ensures.invalid
