use Rattle.amqp_value.proofs.MapOrder.{maps-equal, turned-unequal}
use Rattle.amqp_value.proofs.laws.order.maps_go_by_pairs_in_order.Goals as goal

pub returns-clause-pairs : goal.returns-clause-pairs
returns-clause-pairs c = maps-equal

pub returns-clause-another_order : goal.returns-clause-another_order
returns-clause-another_order c = turned-unequal
