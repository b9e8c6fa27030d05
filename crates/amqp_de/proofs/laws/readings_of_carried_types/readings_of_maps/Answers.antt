use Rattle.std.specs.HashMap.{IsFromIterResult}
use Rattle.amqp_de.specs.Maps.{ReadsPairs, HoldsInOrder, HoldsSorted}
use Rattle.amqp_de.proofs.ReadingLaws.{on_map}
use Rattle.amqp_de.proofs.laws.readings_of_carried_types.readings_of_maps.Goals as goal

pub returns-clause-ordered : goal.returns-clause-ordered
returns-clause-ordered g c = λ t m. on_map (λ ts. ReadsPairs g.K.Deserialize.reads g.V.Deserialize.reads (HoldsInOrder g.K.PartialEq.eq) ts m) t

pub returns-clause-sorted : goal.returns-clause-sorted
returns-clause-sorted g c = λ t. on_map (λ ts. ReadsPairs g.K.Deserialize.reads g.V.Deserialize.reads (HoldsSorted g.K.Ord.cmp) ts c.args.sorted.now) t

pub returns-clause-hashed : goal.returns-clause-hashed
returns-clause-hashed g c = λ t. on_map (λ ts. ReadsPairs g.K.Deserialize.reads g.V.Deserialize.reads (IsFromIterResult g.K.PartialEq.eq) ts c.args.hashed.now) t
