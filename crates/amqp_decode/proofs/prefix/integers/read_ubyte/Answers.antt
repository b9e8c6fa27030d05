use Rattle.std.proofs.Common.{rules}
use Rattle.amqp_decode.proofs.ScalarForms.{ubyte-is}
use Rattle.amqp_decode.proofs.prefix.integers.read_ubyte.Goals as goal

pub returns-in_ok-value-in-80 : goal.returns-in_ok-value-in-80
returns-in_ok-value-in-80 c = rw (c.in-80.is, c.in_ok-value-in-80.ensures) (ubyte-is c.in_ok-value-in-80.value c.in_ok-value-in-80.rest.now c.in_ok-value-in-80.value (search rules))
