use Rattle.std.proofs.Common.{◌≡◌, length, take}
use Rattle.amqp_data.specs.Index.{IsChained, buckets}
use Rattle.amqp_data.proofs.index.index_entries.Given as goal

-- the entries so far are in the index
abbrev pub invariant-loop-entry : goal.invariant-loop-entry
invariant-loop-entry g l =
    (length l.heads.items ≡ l.count) × IsChained l.heads.items l.earlier.items (buckets g.K.Hash.hash_input l.count (take l.entry-index l.entries))
