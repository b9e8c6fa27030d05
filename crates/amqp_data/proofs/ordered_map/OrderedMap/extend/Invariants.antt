use Rattle.std.proofs.Common.{◌≡◌}
use Rattle.std.specs.Map.{keys_of}
use Rattle.amqp_data.specs.Pairs.{entries_of, AreDistinct, insert_pairs}
use Rattle.amqp_data.proofs.ordered_map.OrderedMap.extend.Given as goal

-- the items that the iterator has yielded are inserted in order
abbrev pub invariant-loop-key : goal.invariant-loop-key
invariant-loop-key g l =
    (goal.iterator-loop-key g).can_next l.key-iterator
    × (goal.iterator-loop-key g).is_finite l.key-iterator
    × (entries_of l.self ≡ insert_pairs g.K.PartialEq.eq l.yielded (entries_of l.initial.self))
    × (AreDistinct g.K.PartialEq.eq (keys_of (entries_of l.initial.self)) → AreDistinct g.K.PartialEq.eq (keys_of (entries_of l.self)))
