-- The number of entries of the maps in a tree (AMQP 1.0 part 1, section 1.6.23).
use Rattle.std.specs.Prelude.{ℕ, ◌+◌}
use Rattle.amqp_ser.specs.Tree.{Tree, Trees, Pairs, scalar, list, array, map, described, variant, lazy, transparent, no_trees, more, no_pairs, pair}

-- The entries of all maps together, at any depth. A lazy tree is one value, and has none.
abbrev mutual
  pub entry_count : Tree → ℕ
  entry_count (scalar s) = 0
  entry_count (list ts) = entry_count_each ts
  entry_count (array ts) = entry_count_each ts
  entry_count (map ps) = entry_count_pairs ps
  entry_count (described d t) = entry_count t
  entry_count (variant i t) = entry_count t
  entry_count (lazy bs) = 0
  entry_count (transparent ts) = entry_count_each ts

  pub entry_count_each : Trees → ℕ
  entry_count_each no_trees = 0
  entry_count_each (more t ts) = entry_count t + entry_count_each ts

  -- Each pair is an entry, and the maps in its key and in its value have more.
  pub entry_count_pairs : Pairs → ℕ
  entry_count_pairs no_pairs = 0
  entry_count_pairs (pair k v ps) = 1 + (entry_count k + (entry_count v + entry_count_pairs ps))
