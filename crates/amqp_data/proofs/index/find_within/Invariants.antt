use Rattle.amqp_data.proofs.IndexLemmas.{IsSearched}
use Rattle.std.proofs.Common.{length}
use Rattle.amqp_data.proofs.index.find_within.Given as goal

-- the entries from the number on have been searched
abbrev pub invariant-loop-number : goal.invariant-loop-number
invariant-loop-number g l =
    IsSearched g.K.PartialEq.eq g.K.Hash.hash_input l.key (length l.heads) l.bucket l.entries l.number

abbrev pub decreases-loop-number : goal.decreases-loop-number
decreases-loop-number g l = l.number
