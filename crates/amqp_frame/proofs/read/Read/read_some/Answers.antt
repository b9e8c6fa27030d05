use Rattle.amqp_frame.proofs.Filled.{first-put}
use Rattle.amqp_frame.proofs.read.Read.read_some.Goals as goal

pub returns-clause-ok : goal.returns-clause-ok
returns-clause-ok g c = rw (first-put c.in-Some.byte c.args.buf.now c.requires) (rw c.in-Some.is at c.in_ok-byte.ensures.ok)
