-- Sound values, whose maps have distinct keys at every depth (AMQP 1.0 part 1, section 1.6.23).
use Rattle.std.specs.Prelude.{◌≡◌, false, List, [], ◌∷◌}
use Rattle.amqp_ser.specs.Tree.{Tree, Trees, Pairs, scalar, list, array, map, described, variant, lazy, transparent, no_trees, more, no_pairs, pair}
use Rattle.amqp_ser.specs.Same.{same_tree}
use Rattle.amqp_value.specs.TreeOf.{tree_of, pairs_trees}
use Rattle.amqp_value.specs.declared.value.Value.{Value}

-- No key of the entries is this key.
abbrev pub LacksKey : Tree → Pairs → Type 0
LacksKey k no_pairs = Unit {0}
LacksKey k (pair l w ps) = (same_tree k l ≡ false) × LacksKey k ps

-- No map in the tree has a key twice, at any depth.
abbrev mutual
  pub HasDistinctKeys : Tree → Type 0
  HasDistinctKeys (scalar s) = Unit {0}
  HasDistinctKeys (list ts) = HaveDistinctKeys ts
  HasDistinctKeys (array ts) = HaveDistinctKeys ts
  HasDistinctKeys (map ps) = AreDistinctPairs ps
  HasDistinctKeys (described d t) = HasDistinctKeys t
  HasDistinctKeys (variant i t) = HasDistinctKeys t
  HasDistinctKeys (lazy bs) = Unit {0}
  HasDistinctKeys (transparent ts) = HaveDistinctKeys ts

  pub HaveDistinctKeys : Trees → Type 0
  HaveDistinctKeys no_trees = Unit {0}
  HaveDistinctKeys (more t ts) = HasDistinctKeys t × HaveDistinctKeys ts

  pub AreDistinctPairs : Pairs → Type 0
  AreDistinctPairs no_pairs = Unit {0}
  AreDistinctPairs (pair k v ps) = LacksKey k ps × HasDistinctKeys k × HasDistinctKeys v × AreDistinctPairs ps

-- The value is sound.
abbrev pub IsSound : Value → Type 0
IsSound v = HasDistinctKeys (tree_of v)

-- These values are sound.
abbrev pub AreSound : List Value → Type 0
AreSound [] = Unit {0}
AreSound (v ∷ vs) = IsSound v × AreSound vs

-- These keys and values are sound.
abbrev pub HaveSoundParts : List (Value × Value) → Type 0
HaveSoundParts [] = Unit {0}
HaveSoundParts (e ∷ es) = IsSound e.0 × IsSound e.1 × HaveSoundParts es

-- A map of these entries is sound.
abbrev pub AreSoundEntries : List (Value × Value) → Type 0
AreSoundEntries es = AreDistinctPairs (pairs_trees es)
