use Rattle.amqp_de.proofs.KeyLaws.{ascending}
use Rattle.amqp_de.proofs.laws.ascending_keys_stay_apart.Goals as goal

pub returns : goal.returns
returns g c equal = ascending g.K.Deserialize.same g.K.Ord.cmp g.met.K.Ord.total equal
