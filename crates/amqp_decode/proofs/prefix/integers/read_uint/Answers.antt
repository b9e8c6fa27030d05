use Rattle.std.proofs.Common.{rules}
use Rattle.amqp_decode.proofs.ScalarForms.{zero_uint-is, small_uint-is, uint-is}
use Rattle.amqp_decode.proofs.prefix.integers.read_uint.Goals as goal

pub returns-in-67 : goal.returns-in-67
returns-in-67 c = rw c.in-67.is (zero_uint-is c.args.bytes.now)

pub returns-in_ok-value-in-82 : goal.returns-in_ok-value-in-82
returns-in_ok-value-in-82 c = rw (c.in-82.is, c.in_ok-value-in-82.ensures) (small_uint-is c.in_ok-value-in-82.value c.in_ok-value-in-82.rest.now c.from.result (search rules))

pub returns-in_ok-value-in-112 : goal.returns-in_ok-value-in-112
returns-in_ok-value-in-112 c = rw c.in-112.is (uint-is c.args.bytes.now c.in_ok-value-in-112.value c.in_ok-value-in-112.rest.now c.from_be_bytes.result (search rules) c.in_ok-value-in-112.ensures.0 c.in_ok-value-in-112.ensures.1)
