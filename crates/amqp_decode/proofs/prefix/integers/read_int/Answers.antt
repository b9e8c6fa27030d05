use Rattle.std.proofs.Common.{rules, of_z, to_z, w32}
use Rattle.amqp_decode.proofs.ScalarForms.{small_int-is, int-is}
use Rattle.amqp_decode.proofs.prefix.integers.read_int.Goals as goal

pub returns-in_ok-value-in-84 : goal.returns-in_ok-value-in-84
returns-in_ok-value-in-84 c = rw (c.in-84.is, c.in_ok-value-in-84.ensures) (small_int-is c.in_ok-value-in-84.value c.in_ok-value-in-84.rest.now (to_z w32 (of_z w32 c.from.result)) (search rules))

pub returns-in_ok-value-in-113 : goal.returns-in_ok-value-in-113
returns-in_ok-value-in-113 c = rw c.in-113.is (int-is c.args.bytes.now c.in_ok-value-in-113.value c.in_ok-value-in-113.rest.now (to_z w32 (of_z w32 c.from_be_bytes.result)) (search rules) c.in_ok-value-in-113.ensures.0 c.in_ok-value-in-113.ensures.1)
