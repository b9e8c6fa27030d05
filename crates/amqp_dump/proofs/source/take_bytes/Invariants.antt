use Rattle.amqp_dump.specs.Kept.{Stays}
use Rattle.amqp_dump.proofs.source.take_bytes.Given as goal

abbrev pub invariant-loop-left : goal.invariant-loop-left
invariant-loop-left g l =
    Stays (g.S.Taking.held l.initial.source) (g.S.Taking.left l.initial.source)
    (g.S.Taking.held l.source) (g.S.Taking.left l.source)

abbrev pub decreases-loop-left : goal.decreases-loop-left
decreases-loop-left g l = l.left
