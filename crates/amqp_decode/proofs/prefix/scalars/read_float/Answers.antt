use Rattle.std.proofs.Common.{rules}
use Rattle.amqp_data.specs.Fixed.{f32_bits}
use Rattle.amqp_decode.proofs.ScalarForms.{float-is}
use Rattle.amqp_decode.proofs.prefix.scalars.read_float.Goals as goal

pub returns-in_ok-value-in-114 : goal.returns-in_ok-value-in-114
returns-in_ok-value-in-114 c = rw c.in-114.is (float-is c.args.bytes.now c.in_ok-value-in-114.value c.in_ok-value-in-114.rest.now (f32_bits c.from.result) (search rules) c.in_ok-value-in-114.ensures.0 c.in_ok-value-in-114.ensures.1)
