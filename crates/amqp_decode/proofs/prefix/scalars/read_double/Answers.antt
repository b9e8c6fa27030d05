use Rattle.std.proofs.Common.{rules}
use Rattle.amqp_data.specs.Fixed.{f64_bits}
use Rattle.amqp_decode.proofs.ScalarForms.{double-is}
use Rattle.amqp_decode.proofs.prefix.scalars.read_double.Goals as goal

pub returns-in_ok-value-in-130 : goal.returns-in_ok-value-in-130
returns-in_ok-value-in-130 c = rw c.in-130.is (double-is c.args.bytes.now c.in_ok-value-in-130.value c.in_ok-value-in-130.rest.now (f64_bits c.from.result) (search rules) c.in_ok-value-in-130.ensures.0 c.in_ok-value-in-130.ensures.1)
