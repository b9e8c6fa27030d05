use Rattle.amqp_frame.proofs.Filled.{first-put, seen-read}
use Rattle.amqp_frame.proofs.readers.IoReaderRead.read_some.Goals as goal

pub returns-clause-ok : goal.returns-clause-ok
returns-clause-ok g c =
    rw (c.in-Some.is, first-put c.in-Some.byte c.args.buf.now c.requires)
    (seen-read c.in-Some.byte (g.R.Read.remaining c.args.self.now.inner))
