use Rattle.std.proofs.Common.{◌-◌, ◌^◌, ◌≤◌, vec_len}
use Rattle.std.specs.Io.KnownBytes.{Consumes}
use Rattle.serde_amqp.proofs.input.read_to_end.Given as goal

abbrev pub invariant-loop-reader : goal.invariant-loop-reader
invariant-loop-reader g l = record {
  taken : Consumes (g.R.Read.left l.initial.reader) (g.R.Read.left l.reader) l.bytes.items;
  count : g.R.Read.failures l.initial.reader ≤ g.R.Read.failures l.reader;
}

abbrev pub decreases-loop-reader : goal.decreases-loop-reader
decreases-loop-reader g l = 2 ^ 64 - vec_len l.bytes
