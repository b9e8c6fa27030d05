use Rattle.std.proofs.Common.{◌≡◌}
use Rattle.amqp_data.proofs.transparent_vec.TransparentVec.try_collect.Given as goal

-- the collected items are those that the iterator has yielded
abbrev pub invariant-loop-item : goal.invariant-loop-item
invariant-loop-item g l =
    (goal.iterator-loop-item g).can_next l.item-iterator × (goal.iterator-loop-item g).is_finite l.item-iterator × (l.items.items ≡ l.yielded)
