use Rattle.std.proofs.Common.{◌≡◌, ◌+◌, ◌≤◌, length}
use Rattle.amqp_frame.specs.Taking.{Moves}
use Rattle.amqp_frame.proofs.take_value.take_bytes.Given as goal

abbrev pub invariant-loop-left : goal.invariant-loop-left
invariant-loop-left g l = record {
  moved : Moves (g.R.Read.left l.initial.reader) (g.R.Read.left l.reader) l.initial.collected.items
      l.collected.items (λ bytes. length bytes + l.left ≡ l.count);
  count : g.R.Read.failures l.initial.reader ≤ g.R.Read.failures l.reader;
}

abbrev pub decreases-loop-left : goal.decreases-loop-left
decreases-loop-left g l = l.left
