use Rattle.std.proofs.Common.{rules, of_z, to_z, w8}
use Rattle.amqp_decode.proofs.ScalarForms.{byte-is}
use Rattle.amqp_decode.proofs.prefix.integers.read_byte.Goals as goal

pub returns-in_ok-value-in-81 : goal.returns-in_ok-value-in-81
returns-in_ok-value-in-81 c = rw (c.in-81.is, c.in_ok-value-in-81.ensures) (byte-is c.in_ok-value-in-81.value c.in_ok-value-in-81.rest.now (to_z w8 (of_z w8 c.cast_signed.result)) (search rules))
