use Rattle.std.proofs.Common.{rules, of_z, to_z, w64}
use Rattle.amqp_decode.proofs.ScalarForms.{small_long-is, long-is}
use Rattle.amqp_decode.proofs.prefix.integers.read_long.Goals as goal

pub returns-in_ok-value-in-85 : goal.returns-in_ok-value-in-85
returns-in_ok-value-in-85 c = rw (c.in-85.is, c.in_ok-value-in-85.ensures) (small_long-is c.in_ok-value-in-85.value c.in_ok-value-in-85.rest.now (to_z w64 (of_z w64 c.from.result)) (search rules))

pub returns-in_ok-value-in-129 : goal.returns-in_ok-value-in-129
returns-in_ok-value-in-129 c = rw c.in-129.is (long-is c.args.bytes.now c.in_ok-value-in-129.value c.in_ok-value-in-129.rest.now (to_z w64 (of_z w64 c.from_be_bytes.result)) (search rules) c.in_ok-value-in-129.ensures.0 c.in_ok-value-in-129.ensures.1)
