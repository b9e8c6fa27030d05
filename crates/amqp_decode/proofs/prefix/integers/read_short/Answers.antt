use Rattle.std.proofs.Common.{rules, of_z, to_z, w16}
use Rattle.amqp_decode.proofs.ScalarForms.{short-is}
use Rattle.amqp_decode.proofs.prefix.integers.read_short.Goals as goal

pub returns-in_ok-value-in-97 : goal.returns-in_ok-value-in-97
returns-in_ok-value-in-97 c = rw c.in-97.is (short-is c.args.bytes.now c.in_ok-value-in-97.value c.in_ok-value-in-97.rest.now (to_z w16 (of_z w16 c.from_be_bytes.result)) (search rules) c.in_ok-value-in-97.ensures.0 c.in_ok-value-in-97.ensures.1)
