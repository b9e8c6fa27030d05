use Rattle.std.proofs.Common.{◌≡◌, length, take}
use Rattle.amqp_data.specs.Index.{IsIndexed}
use Rattle.amqp_data.proofs.distinct_keys.index_distinct.Given as goal

-- the entries so far are in the index, and their keys are distinct
abbrev pub invariant-loop-i : goal.invariant-loop-i
invariant-loop-i g l =
    (length l.heads ≡ length l.initial.heads) × IsIndexed g.K.PartialEq.eq g.K.Hash.hash_input l.heads l.earlier.items (take l.i l.entries)
