use Rattle.std.proofs.Common.{◌≡◌, ◌≤◌}
use Rattle.amqp_cursor.proofs.faults.+walk.Given as goal

abbrev pub decreases-walk : goal.decreases-walk
decreases-walk l = l.depth

abbrev pub invariant-loop : goal.invariant-loop
invariant-loop l = (l.level ≤ l.fn.depth) × (l.depth ≡ l.fn.depth)
