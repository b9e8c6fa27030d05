-- Plain trees, which have the same encoding as their image.
use Rattle.std.specs.Prelude.{◌≡◌, false}
use Rattle.amqp_ser.specs.Tree.{Tree, Trees, Pairs, scalar, list, array, map, described, variant, lazy, transparent, no_trees, more, no_pairs, pair}
use Rattle.amqp_ser.specs.Same.{same_tree}
use Rattle.amqp_value.specs.Image.{image}

-- No key of the entries has this image.
abbrev pub LacksImage : Tree → Pairs → Type 0
LacksImage k no_pairs = Unit {0}
LacksImage k (pair l w ps) = (same_tree (image l) k ≡ false) × LacksImage k ps

-- At every depth, nothing is lazy or transparent, and no map has two keys with the same image.
abbrev mutual
  pub IsPlain : Tree → Type 0
  IsPlain (scalar s) = Unit {0}
  IsPlain (list ts) = ArePlain ts
  IsPlain (array ts) = ArePlain ts
  IsPlain (map ps) = HasPlainPairs ps
  IsPlain (described d t) = IsPlain t
  IsPlain (variant i t) = IsPlain t
  IsPlain (lazy bs) = ⊥
  IsPlain (transparent ts) = ⊥

  pub ArePlain : Trees → Type 0
  ArePlain no_trees = Unit {0}
  ArePlain (more t ts) = IsPlain t × ArePlain ts

  pub HasPlainPairs : Pairs → Type 0
  HasPlainPairs no_pairs = Unit {0}
  HasPlainPairs (pair k v ps) = IsPlain k × IsPlain v × LacksImage (image k) ps × HasPlainPairs ps
