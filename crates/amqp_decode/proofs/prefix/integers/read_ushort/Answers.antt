use Rattle.std.proofs.Common.{rules}
use Rattle.amqp_decode.proofs.ScalarForms.{ushort-is}
use Rattle.amqp_decode.proofs.prefix.integers.read_ushort.Goals as goal

pub returns-in_ok-value-in-96 : goal.returns-in_ok-value-in-96
returns-in_ok-value-in-96 c = rw c.in-96.is (ushort-is c.args.bytes.now c.in_ok-value-in-96.value c.in_ok-value-in-96.rest.now c.from_be_bytes.result (search rules) c.in_ok-value-in-96.ensures.0 c.in_ok-value-in-96.ensures.1)
