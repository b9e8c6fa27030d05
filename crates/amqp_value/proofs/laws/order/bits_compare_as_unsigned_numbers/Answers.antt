use Rattle.amqp_value.proofs.KindOrder.{floats, doubles}
use Rattle.amqp_value.proofs.laws.order.bits_compare_as_unsigned_numbers.Goals as goal

pub returns-clause-floats : goal.returns-clause-floats
returns-clause-floats c = floats

pub returns-clause-doubles : goal.returns-clause-doubles
returns-clause-doubles c = doubles
