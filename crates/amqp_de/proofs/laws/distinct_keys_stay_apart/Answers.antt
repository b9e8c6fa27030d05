use Rattle.amqp_de.proofs.KeyLaws.{distinct_hashed, distinct_ordered}
use Rattle.amqp_de.proofs.laws.distinct_keys_stay_apart.Goals as goal

pub returns-clause-ordered : goal.returns-clause-ordered
returns-clause-ordered g c equal = distinct_ordered g.K.Deserialize.same g.K.PartialEq.eq g.met.K.Eq.laws equal

pub returns-clause-hashed : goal.returns-clause-hashed
returns-clause-hashed g c equal = distinct_hashed g.K.Deserialize.same g.K.PartialEq.eq g.met.K.Eq.laws equal
