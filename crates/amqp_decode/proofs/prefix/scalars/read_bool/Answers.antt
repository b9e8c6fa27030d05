use Rattle.amqp_decode.proofs.ScalarForms.{true-is, false-is, true_byte-is, false_byte-is}
use Rattle.amqp_decode.proofs.prefix.scalars.read_bool.Goals as goal

pub returns-in-65 : goal.returns-in-65
returns-in-65 c = rw c.in-65.is (true-is c.args.bytes.now)

pub returns-in-66 : goal.returns-in-66
returns-in-66 c = rw c.in-66.is (false-is c.args.bytes.now)

pub returns-in-0 : goal.returns-in-0
returns-in-0 c = rw (c.in-86.is, c.in_ok-value-in-86.ensures, c.in-0.is) (false_byte-is c.in_ok-value-in-86.rest.now)

pub returns-in-1 : goal.returns-in-1
returns-in-1 c = rw (c.in-86.is, c.in_ok-value-in-86.ensures, c.in-1.is) (true_byte-is c.in_ok-value-in-86.rest.now)
