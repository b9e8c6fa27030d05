use Rattle.std.proofs.Common.{◌≤◌}
use Rattle.serde_amqp.proofs.Runs.{Progress}
use Rattle.serde_amqp.proofs.cut.print_encoded_values.Given as goal

abbrev pub invariant-loop-encoded : goal.invariant-loop-encoded
invariant-loop-encoded g l = record {
  done : Progress (g.R.Read.left l.initial.reader) (g.R.Read.left l.reader) (g.W.Write.written l.initial.writer) (g.W.Write.written l.writer) l._encoded;
  reads : g.R.Read.failures l.initial.reader ≤ g.R.Read.failures l.reader;
  writes : g.W.Write.failures l.initial.writer ≤ g.W.Write.failures l.writer;
}
