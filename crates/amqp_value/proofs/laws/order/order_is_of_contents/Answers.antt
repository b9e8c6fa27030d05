use Rattle.amqp_value.proofs.OrderLemmas.{compare-is_order}
use Rattle.amqp_value.proofs.Ranks.{compare-rank}
use Rattle.amqp_value.proofs.laws.order.order_is_of_contents.Goals as goal

pub returns-clause-contents : goal.returns-clause-contents
returns-clause-contents c = compare-is_order

pub returns-clause-kinds : goal.returns-clause-kinds
returns-clause-kinds c = compare-rank
