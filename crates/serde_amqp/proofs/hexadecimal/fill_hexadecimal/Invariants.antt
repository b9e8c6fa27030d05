use Rattle.serde_amqp.proofs.Digits.{IsWritten}
use Rattle.serde_amqp.proofs.hexadecimal.fill_hexadecimal.Given as goal

abbrev pub invariant-loop-index : goal.invariant-loop-index
invariant-loop-index l = IsWritten l.bytes l.digits l.index
