use Rattle.std.proofs.Common.{◌≡◌, [], length}
use Rattle.amqp_data.specs.Pairs.{insert_pairs}
use Rattle.amqp_data.proofs.keys.order.rebuild.Given as goal

-- the entries so far are inserted
abbrev pub invariant-loop-key : goal.invariant-loop-key
invariant-loop-key g l = record {
  count : l.i ≡ length l.yielded;
  made : l.made.items ≡ insert_pairs g.K.PartialEq.eq l.yielded [];
}
