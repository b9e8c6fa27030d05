use Rattle.std.proofs.Common.{◌≡◌, []}
use Rattle.amqp_data.specs.Pairs.{insert_pairs}
use Rattle.amqp_data.specs.SortedHashes.{ArePlaced}
use Rattle.amqp_data.proofs.keys.sorted_hashes.once_each_by_hashes.Given as goal

-- the entries so far are inserted, and their positions are known
abbrev pub invariant-loop-key : goal.invariant-loop-key
invariant-loop-key g l =
    (l.made.items ≡ insert_pairs g.K.PartialEq.eq l.yielded []) × ArePlaced g.K.PartialEq.eq g.K.Hash.hash_input l.places l.made.items
