use Rattle.amqp_from_value.proofs.LimitedLemmas.{refused_next_allowed}
use Rattle.amqp_from_value.proofs.reader.from_reader_limited.Goals as goal

pub returns-in-Ok-clause-refused : goal.returns-in-Ok-clause-refused
returns-in-Ok-clause-refused g c =
    refused_next_allowed g.T.Deserialize.reads c.args.limits (g.R.Read.left c.args.reader.now) (g.R.Read.left c.from_reader_limited.new.reader)
    (g.R.Read.failures c.args.reader.now) (g.R.Read.failures c.from_reader_limited.new.reader) c.in-Ok.lazy c.as_slice.result.now
    c.in-Err-from_slice_limited.error c.in-Ok.ensures.encoded.0 c.in-Ok.ensures.encoded.1 c.as_slice.ensures.bytes c.in-Err-from_slice_limited.ensures.read
