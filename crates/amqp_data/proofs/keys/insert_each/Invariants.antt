use Rattle.std.proofs.Common.{◌≡◌, ◌++◌, []}
use Rattle.amqp_data.specs.Pairs.{insert_pairs}
use Rattle.amqp_data.proofs.keys.insert_each.Given as goal

-- the entries so far are inserted
abbrev pub invariant-loop-key : goal.invariant-loop-key
invariant-loop-key g l = l.entries.items ≡ insert_pairs g.K.PartialEq.eq (l.initial.entries.items ++ l.yielded) []
