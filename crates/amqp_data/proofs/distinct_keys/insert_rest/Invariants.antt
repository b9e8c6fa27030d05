use Rattle.std.proofs.Common.{◌≡◌, ◌<◌, ◌++◌, [], length}
use Rattle.std.specs.Bool.{OnTrue}
use Rattle.amqp_data.specs.Index.{IsIndexed}
use Rattle.amqp_data.specs.Pairs.{insert_pairs}
use Rattle.amqp_data.proofs.distinct_keys.insert_rest.Given as goal

-- the entries so far are inserted or appended, and in the index if all are inserted
abbrev pub invariant-loop-key : goal.invariant-loop-key
invariant-loop-key g l = record {
  long : length l.heads ≡ length l.initial.heads;
  merged : insert_pairs g.K.PartialEq.eq l.entries.items [] ≡ insert_pairs g.K.PartialEq.eq (l.initial.entries.items ++ l.yielded) [];
  indexed : OnTrue l.all (IsIndexed g.K.PartialEq.eq g.K.Hash.hash_input l.heads l.earlier.items l.entries.items);
}
