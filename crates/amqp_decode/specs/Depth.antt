-- The depth of a tree, and the trees without lazy and transparent parts (AMQP 1.0 part 1, sections
-- 1.2 and 1.6).
use Rattle.std.specs.Prelude.{ℕ, suc, max}
use Rattle.amqp_ser.specs.Tree.{Tree, Trees, Pairs, scalar, list, array, map, described, variant, lazy, transparent, no_trees, more, no_pairs, pair}

-- A scalar or an empty compound has depth 1, any other compound has one more than its deepest part,
-- and a described value has one more than its value. A variant is a map.
abbrev mutual
  pub depth_of : Tree → ℕ
  depth_of (scalar s) = 1
  depth_of (list ts) = suc (depth_of_each ts)
  depth_of (array ts) = suc (depth_of_each ts)
  depth_of (map ps) = suc (depth_of_pairs ps)
  depth_of (described d t) = suc (depth_of t)
  depth_of (variant i t) = suc (max 1 (depth_of t))
  depth_of (lazy bs) = 1
  depth_of (transparent ts) = depth_of_each ts

  pub depth_of_each : Trees → ℕ
  depth_of_each no_trees = 0
  depth_of_each (more t ts) = max (depth_of t) (depth_of_each ts)

  pub depth_of_pairs : Pairs → ℕ
  depth_of_pairs no_pairs = 0
  depth_of_pairs (pair k v ps) = max (depth_of k) (max (depth_of v) (depth_of_pairs ps))

-- No part is lazy or transparent, at any depth.
abbrev mutual
  pub IsOrdinary : Tree → Type 0
  IsOrdinary (scalar s) = Unit {0}
  IsOrdinary (list ts) = AreOrdinary ts
  IsOrdinary (array ts) = AreOrdinary ts
  IsOrdinary (map ps) = HasOrdinaryPairs ps
  IsOrdinary (described d t) = IsOrdinary t
  IsOrdinary (variant i t) = IsOrdinary t
  IsOrdinary (lazy bs) = ⊥
  IsOrdinary (transparent ts) = ⊥

  pub AreOrdinary : Trees → Type 0
  AreOrdinary no_trees = Unit {0}
  AreOrdinary (more t ts) = IsOrdinary t × AreOrdinary ts

  pub HasOrdinaryPairs : Pairs → Type 0
  HasOrdinaryPairs no_pairs = Unit {0}
  HasOrdinaryPairs (pair k v ps) = IsOrdinary k × IsOrdinary v × HasOrdinaryPairs ps
