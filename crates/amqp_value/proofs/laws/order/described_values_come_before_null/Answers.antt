use Rattle.amqp_value.proofs.KindOrder.{described-null}
use Rattle.amqp_value.proofs.laws.order.described_values_come_before_null.Goals as goal

pub returns : goal.returns
returns c = described-null
