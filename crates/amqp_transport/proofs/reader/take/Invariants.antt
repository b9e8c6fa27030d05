use Rattle.std.proofs.Common.{◌≡◌, ◌+◌, length}
use Rattle.amqp_frame.specs.Taking.{Moves}
use Rattle.amqp_transport.proofs.reader.take.Given as goal

abbrev pub invariant-loop-left : goal.invariant-loop-left
invariant-loop-left g l =
    Moves (g.R.Read.left l.initial.reader) (g.R.Read.left l.reader) l.initial.frame.items l.frame.items
    (λ bytes. length bytes + l.left ≡ l.len)

abbrev pub decreases-loop-left : goal.decreases-loop-left
decreases-loop-left g l = l.left
