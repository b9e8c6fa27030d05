use Rattle.amqp_frame.proofs.Ends.{kept-within}
use Rattle.amqp_frame.proofs.lazy.LazyValue.from_reader_limited.Goals as goal

pub returns-in-Err-clause-kept : goal.returns-in-Err-clause-kept
returns-in-Err-clause-kept g c = kept-within c.args.limit c.in-Err.error _ _ _ _ c.in-Err.ensures.refused
