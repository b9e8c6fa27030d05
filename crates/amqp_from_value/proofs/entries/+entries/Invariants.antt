use Rattle.std.proofs.Common.{◌≡◌, ◌+◌, ◌-◌, length, drop}
use Rattle.amqp_value.specs.TreeOf.{all_of, pairs_trees}
use Rattle.amqp_from_value.specs.Entries.{entry_count_each, entry_count_pairs}
use Rattle.amqp_from_value.proofs.entries.+entries.Given as goal

-- As many entries are left as if only the parts before had been counted.
abbrev pub invariant-left_by_items-loop-item : goal.invariant-left_by_items-loop-item
invariant-left_by_items-loop-item l =
    entry_count_each (all_of l.items) + l.rest ≡ entry_count_each (all_of (drop l.item-index l.items)) + l.left

abbrev pub invariant-left_by_entries-loop-at : goal.invariant-left_by_entries-loop-at
invariant-left_by_entries-loop-at l =
    entry_count_pairs (pairs_trees l.entries) + l.rest ≡ entry_count_pairs (pairs_trees (drop l.at l.entries)) + l.left

abbrev pub decreases-left_by_entries-loop-at : goal.decreases-left_by_entries-loop-at
decreases-left_by_entries-loop-at l = length l.entries - l.at
