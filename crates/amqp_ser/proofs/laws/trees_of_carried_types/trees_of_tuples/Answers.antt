use Rattle.amqp_ser.proofs.Carried.{whole_list}
use Rattle.amqp_ser.proofs.laws.trees_of_carried_types.trees_of_tuples.Goals as goal

pub returns-clause-one : goal.returns-clause-one
returns-clause-one g c = λ x. whole_list _

pub returns-clause-two : goal.returns-clause-two
returns-clause-two g c = λ x y. whole_list _

pub returns-clause-three : goal.returns-clause-three
returns-clause-three g c = λ x y z. whole_list _

pub returns-clause-four : goal.returns-clause-four
returns-clause-four g c = λ x y z w. whole_list _
