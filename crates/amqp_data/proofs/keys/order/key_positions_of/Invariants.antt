use Rattle.std.proofs.Common.{◌≡◌, [], take}
use Rattle.amqp_data.specs.Pairs.{insert_pairs}
use Rattle.amqp_data.specs.KeyPositions.{Indexes, key_positions}
use Rattle.amqp_data.proofs.keys.order.key_positions_of.Given as goal

-- the keys so far have their places, and are in the index
abbrev pub invariant-loop-entry : goal.invariant-loop-entry
invariant-loop-entry g l = record {
  found : l.found.items ≡ key_positions g.K.PartialEq.eq (take l.entry-index l.entries) [];
  index : Indexes g.K.PartialEq.eq g.K.Ord.cmp (insert_pairs g.K.PartialEq.eq (take l.entry-index l.entries) []) l.index;
}
