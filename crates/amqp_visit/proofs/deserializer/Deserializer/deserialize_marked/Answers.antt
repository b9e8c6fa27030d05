use Rattle.amqp_visit.proofs.deserializer.Deserializer.deserialize_marked.Goals as goal

pub returns-in-Array-clause-visits : goal.returns-in-Array-clause-visits
returns-in-Array-clause-visits g c = rw c.in-Array.is c.deserialize_array.ensures.visits

pub returns-in-Array-clause-invalid : goal.returns-in-Array-clause-invalid
returns-in-Array-clause-invalid g c = rw c.in-Array.is c.deserialize_array.ensures.invalid
