use Rattle.std.proofs.Common.{◌+◌, ◌-◌, ◌^◌, ◌≤◌, vec_len}
use Rattle.std.specs.Io.KnownBytes.{Consumes}
use Rattle.amqp_frame.proofs.Open.{Open}
use Rattle.amqp_frame.proofs.take_value.take_value.Given as goal

abbrev pub invariant-loop-open : goal.invariant-loop-open
invariant-loop-open g l = record {
  moved : Consumes (g.R.Read.left l.initial.reader) (g.R.Read.left l.reader) l.collected.items;
  completes : Open l.collected.items l.open;
  bound : l.open ≤ vec_len l.collected + 1;
  count : g.R.Read.failures l.initial.reader ≤ g.R.Read.failures l.reader;
  within : vec_len l.collected ≤ l.limit;
}

abbrev pub decreases-loop-open : goal.decreases-loop-open
decreases-loop-open g l = 2 ^ 64 - vec_len l.collected
