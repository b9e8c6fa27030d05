use Rattle.std.proofs.Common.{rules}
use Rattle.amqp_data.specs.Fixed.{milliseconds_of}
use Rattle.amqp_decode.proofs.ScalarForms.{timestamp-is}
use Rattle.amqp_decode.proofs.prefix.scalars.read_timestamp.Goals as goal

pub returns-in_ok-value-in-131 : goal.returns-in_ok-value-in-131
returns-in_ok-value-in-131 c = rw c.in-131.is (timestamp-is c.args.bytes.now c.in_ok-value-in-131.value c.in_ok-value-in-131.rest.now (milliseconds_of c.from.result) (search rules) c.in_ok-value-in-131.ensures.0 c.in_ok-value-in-131.ensures.1)
