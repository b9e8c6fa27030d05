use Rattle.amqp_value.specs.contracts.value.ValueOrd.TheImpl.Laws as order
use Rattle.amqp_value.proofs.laws.order.order_agrees_with_equality.Goals as goal

pub returns : goal.returns
returns c = order.matches_eq-law
