-- A tree whose lazy trees are read: each becomes the value that its bytes encode (AMQP 1.0 part 1,
-- sections 1.2 and 1.6).
use Rattle.std.specs.Prelude.{◌≡◌}
use Rattle.amqp_decode.specs.Encodes.{Encodes}
use Rattle.amqp_ser.specs.Tree.{Tree, Trees, Pairs, scalar, list, array, map, described, variant, lazy, transparent, no_trees, more, no_pairs, pair}

-- The second tree is the first with each lazy tree replaced by a tree that its bytes encode, which
-- is at most 256 deep.
abbrev mutual
  pub Opened : Tree → Tree → Type 0
  Opened (scalar s) u = u ≡ scalar s
  Opened (list ts) u = (us : Trees) × (u ≡ list us) × AreOpened ts us
  Opened (array ts) u = (us : Trees) × (u ≡ array us) × AreOpened ts us
  Opened (map ps) u = (qs : Pairs) × (u ≡ map qs) × HasOpenedPairs ps qs
  Opened (described d t) u = (v : Tree) × (u ≡ described d v) × Opened t v
  Opened (variant i t) u = (v : Tree) × (u ≡ variant i v) × Opened t v
  Opened (lazy bs) u = Encodes 256 bs u
  Opened (transparent ts) u = (us : Trees) × (u ≡ transparent us) × AreOpened ts us

  -- The same for trees, one by one.
  pub AreOpened : Trees → Trees → Type 0
  AreOpened no_trees us = us ≡ no_trees
  AreOpened (more t ts) us = (v : Tree) × (vs : Trees) × (us ≡ more v vs) × Opened t v × AreOpened ts vs

  -- The same for the keys and values of pairs.
  pub HasOpenedPairs : Pairs → Pairs → Type 0
  HasOpenedPairs no_pairs qs = qs ≡ no_pairs
  HasOpenedPairs (pair k v ps) qs = (l : Tree) × (w : Tree) × (rs : Pairs) × (qs ≡ pair l w rs) × Opened k l × Opened v w × HasOpenedPairs ps rs

-- Some lazy tree in the tree encodes no value.
abbrev pub IsUnreadable : Tree → Type 0
IsUnreadable t = (u : Tree) → ¬ Opened t u
