-- Trees with an array without elements, which is encoded without a constructor (AMQP 1.0 part 1,
-- sections 1.2 and 1.6.24).
use Rattle.std.specs.Prelude.{◌≡◌, Bool, true, false, ◌||◌, Option, Some, None, Result, Ok, Err}
use Rattle.amqp_ser.specs.Tree.{Tree, Trees, Pairs, scalar, list, array, map, described, variant, lazy, transparent, no_trees, more, no_pairs, pair}

-- The tree, or a part of it at any depth, is an array without elements. The bytes of a lazy tree
-- are not looked into.
abbrev mutual
  pub has_empty_array : Tree → Bool
  has_empty_array (scalar s) = false
  has_empty_array (list ts) = any_has ts
  has_empty_array (array no_trees) = true
  has_empty_array (array (more t ts)) = has_empty_array t || any_has ts
  has_empty_array (map ps) = any_pair_has ps
  has_empty_array (described d t) = has_empty_array t
  has_empty_array (variant i t) = has_empty_array t
  has_empty_array (lazy bs) = false
  has_empty_array (transparent ts) = any_has ts

  pub any_has : Trees → Bool
  any_has no_trees = false
  any_has (more t ts) = has_empty_array t || any_has ts

  pub any_pair_has : Pairs → Bool
  any_pair_has no_pairs = false
  any_pair_has (pair k v ps) = has_empty_array k || (has_empty_array v || any_pair_has ps)

-- Whether the tree has an array without elements, or an error if and only if there is no tree.
abbrev pub Finds : {E : Type 0} → Option Tree → Result Bool E → Type 0
Finds (Some t) (Ok b) = b ≡ has_empty_array t
Finds None (Err e) = Unit {0}
Finds o r = ⊥
