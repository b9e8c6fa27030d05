use Rattle.std.proofs.Common.{rules}
use Rattle.amqp_decode.proofs.ScalarForms.{zero_ulong-is, small_ulong-is, ulong-is}
use Rattle.amqp_decode.proofs.prefix.integers.read_ulong.Goals as goal

pub returns-in-68 : goal.returns-in-68
returns-in-68 c = rw c.in-68.is (zero_ulong-is c.args.bytes.now)

pub returns-in_ok-value-in-83 : goal.returns-in_ok-value-in-83
returns-in_ok-value-in-83 c = rw (c.in-83.is, c.in_ok-value-in-83.ensures) (small_ulong-is c.in_ok-value-in-83.value c.in_ok-value-in-83.rest.now c.from.result (search rules))

pub returns-in_ok-value-in-128 : goal.returns-in_ok-value-in-128
returns-in_ok-value-in-128 c = rw c.in-128.is (ulong-is c.args.bytes.now c.in_ok-value-in-128.value c.in_ok-value-in-128.rest.now c.from_be_bytes.result (search rules) c.in_ok-value-in-128.ensures.0 c.in_ok-value-in-128.ensures.1)
