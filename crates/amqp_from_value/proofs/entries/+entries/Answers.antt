use Rattle.std.proofs.Common.{◌≡◌, ◌+◌, IfSome, subst}
use Rattle.amqp_value.proofs.TreeLemmas.{tree_of-Map}
use Rattle.amqp_value.specs.TreeOf.{pairs_trees}
use Rattle.amqp_from_value.specs.Entries.{entry_count_pairs}
use Rattle.amqp_from_value.proofs.entries.+entries.Goals as goal

pub left_by-returns-in-Map-clause-some : goal.left_by-returns-in-Map-clause-some
left_by-returns-in-Map-clause-some t c =
    rw c.in-Map.is (rw (tree_of-Map c.in-Map.entries)
    (subst (λ es. IfSome c.left_by_entries.result (λ rest. entry_count_pairs (pairs_trees es) + rest ≡ c.args.left)) c.as_slice.ensures c.left_by_entries.ensures.some))
