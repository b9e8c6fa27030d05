use Rattle.std.proofs.Common.{arith}
use Rattle.serde_amqp.proofs.Digits.{written-more, written-all}
use Rattle.serde_amqp.proofs.hexadecimal.fill_hexadecimal.Goals as goal

pub loop-index-preserved : goal.loop-index-preserved
loop-index-preserved c = written-more c.args.bytes.now c.loop-index.digits c.loop-index.index _ _ (omega arith) (omega arith) (cc) (cc) c.loop-index.invariant

pub returns : goal.returns
returns c = written-all _ _ c.loop-index.index (omega arith) (omega arith) c.loop-index.invariant
