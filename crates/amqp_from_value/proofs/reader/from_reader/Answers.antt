use Rattle.amqp_from_value.proofs.FromReaderLemmas.{refused_next}
use Rattle.amqp_from_value.proofs.reader.from_reader.Goals as goal

pub returns-in-Ok-clause-refused : goal.returns-in-Ok-clause-refused
returns-in-Ok-clause-refused g c =
    refused_next g.T.Deserialize.reads (g.R.Read.left c.args.reader.now) (g.R.Read.left c.from_reader.new.reader)
    (g.R.Read.failures c.args.reader.now) (g.R.Read.failures c.from_reader.new.reader) c.in-Ok.lazy c.as_slice.result.now
    c.in-Err-from_slice.error c.in-Ok.ensures.encoded.0 c.in-Ok.ensures.encoded.1 c.as_slice.ensures.bytes c.in-Err-from_slice.ensures.read
