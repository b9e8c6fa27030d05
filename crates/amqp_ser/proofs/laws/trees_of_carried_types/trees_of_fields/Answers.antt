use Rattle.amqp_ser.proofs.Carried.{whole_list, whole_variant}
use Rattle.amqp_ser.proofs.laws.trees_of_carried_types.trees_of_fields.Goals as goal

pub returns-clause-list : goal.returns-clause-list
returns-clause-list g c = λ l. whole_list _

pub returns-clause-variant : goal.returns-clause-variant
returns-clause-variant g c = λ v. whole_variant v.0 _
