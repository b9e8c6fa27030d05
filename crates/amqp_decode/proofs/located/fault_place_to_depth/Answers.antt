use Rattle.amqp_decode.proofs.PlaceLemmas.{no-value, one-value}
use Rattle.amqp_decode.proofs.located.fault_place_to_depth.Goals as goal

pub returns-in-Ok-clause-none : goal.returns-in-Ok-clause-none
returns-in-Ok-clause-none c = one-value c.args.depth c.args.bytes.now c.in-Ok.ensures.ok

pub returns-in-Err-clause-err : goal.returns-in-Err-clause-err
returns-in-Err-clause-err c = no-value c.args.depth c.args.bytes.now c.in-Err.ensures.err
