-- Trees that contain no variant and nothing lazy or transparent.
use Rattle.amqp_ser.specs.Tree.{Tree, Trees, Pairs, scalar, list, array, map, described, variant, lazy, transparent, no_trees, more, no_pairs, pair}

abbrev mutual
  pub IsUntyped : Tree → Type 0
  IsUntyped (scalar s) = Unit {0}
  IsUntyped (list ts) = AreUntyped ts
  IsUntyped (array ts) = AreUntyped ts
  IsUntyped (map ps) = HasUntypedPairs ps
  IsUntyped (described d t) = IsUntyped t
  IsUntyped (variant n t) = ⊥
  IsUntyped (lazy bs) = ⊥
  IsUntyped (transparent ts) = ⊥

  pub AreUntyped : Trees → Type 0
  AreUntyped no_trees = Unit {0}
  AreUntyped (more t ts) = IsUntyped t × AreUntyped ts

  pub HasUntypedPairs : Pairs → Type 0
  HasUntypedPairs no_pairs = Unit {0}
  HasUntypedPairs (pair k v ps) = IsUntyped k × IsUntyped v × HasUntypedPairs ps
