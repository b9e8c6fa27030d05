use Rattle.std.proofs.Common.{◌+◌, ◌-◌, ◌≤◌, length, take}
use Rattle.amqp_frame.proofs.Open.{Open}
use Rattle.amqp_frame.proofs.encoded_value.frame_len.Given as goal

abbrev pub invariant-loop-open : goal.invariant-loop-open
invariant-loop-open l = record {
  within : l.at ≤ length l.bytes;
  bound : l.open ≤ l.at + 1;
  completes : Open (take l.at l.bytes) l.open;
}

abbrev pub decreases-loop-open : goal.decreases-loop-open
decreases-loop-open l = length l.bytes - l.at
