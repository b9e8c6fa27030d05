use Rattle.amqp_decode.proofs.ScalarForms.{null-is}
use Rattle.amqp_decode.proofs.prefix.scalars.read_null.Goals as goal

pub returns-in-64 : goal.returns-in-64
returns-in-64 c = rw c.in-64.is (null-is c.args.bytes.now)
