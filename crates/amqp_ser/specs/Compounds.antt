-- The trees of compounds. If one part has no tree, the compound has none.
use Rattle.std.specs.Prelude.{ℕ, List, [], ◌∷◌, Option, Some, None, Bool, true, false, not}
use Rattle.amqp_ser.specs.Tree.{Tree, Trees, Pairs, list, map, variant, no_trees, more, no_pairs, pair}
use Rattle.amqp_ser.specs.declared.kind.CompoundKind.{CompoundKind}
use Rattle.amqp_ser.specs.declared.kind.CompoundKind.TheVariants as kind

-- The trees of a part and of the parts after it.
abbrev pub prepend : Option Tree → Option Trees → Option Trees
prepend None rest = None
prepend (Some t) None = None
prepend (Some t) (Some ts) = Some (more t ts)

-- The trees of all parts, if each part has one.
abbrev pub all_trees : List (Option Tree) → Option Trees
all_trees [] = Some no_trees
all_trees (p ∷ ps) = prepend p (all_trees ps)

abbrev pub prepend_pair : Tree → Tree → Option Pairs → Option Pairs
prepend_pair k v None = None
prepend_pair k v (Some ps) = Some (pair k v ps)

-- The pairs of alternating keys and values, if the number of trees is even.
abbrev pub in_pairs : Trees → Option Pairs
in_pairs no_trees = Some no_pairs
in_pairs (more k no_trees) = None
in_pairs (more k (more v ts)) = prepend_pair k v (in_pairs ts)

abbrev pub as_map : Option Pairs → Option Tree
as_map None = None
as_map (Some ps) = Some (map ps)

-- The only tree, if there is exactly one.
abbrev pub only : Trees → Option Tree
only no_trees = None
only (more t no_trees) = Some t
only (more t (more u ts)) = None

abbrev pub as_variant : ℕ → Option Tree → Option Tree
as_variant i None = None
as_variant i (Some t) = Some (variant i t)

-- The tree of each kind: the list of the elements, the map of the keys and values, the variant of
-- the list of the fields, the variant of the one value, and the one value itself.
abbrev pub as_kind : CompoundKind → Option Trees → Option Tree
as_kind k None = None
as_kind kind.List (Some ts) = Some (list ts)
as_kind kind.Map (Some ts) = as_map (in_pairs ts)
as_kind (kind.Variant i) (Some ts) = Some (variant i (list ts))
as_kind (kind.NewtypeVariant i) (Some ts) = as_variant i (only ts)
as_kind kind.Single (Some ts) = only ts

-- The tree of a compound of this kind with these parts.
unfoldable pub tree_of_parts : CompoundKind → List (Option Tree) → Option Tree
tree_of_parts k ps = as_kind k (all_trees ps)

-- The number of parts is even.
abbrev pub paired : List (Option Tree) → Bool
paired [] = true
paired (p ∷ ps) = not (paired ps)

-- The compound may end after these parts.
abbrev pub complete : CompoundKind → List (Option Tree) → Bool
complete kind.List ps = true
complete kind.Map ps = paired ps
complete (kind.Variant i) ps = true
complete (kind.NewtypeVariant i) [] = false
complete (kind.NewtypeVariant i) (p ∷ []) = true
complete (kind.NewtypeVariant i) (p ∷ (q ∷ ps)) = false
complete kind.Single [] = false
complete kind.Single (p ∷ []) = true
complete kind.Single (p ∷ (q ∷ ps)) = false

-- The parts of a map: the trees of its keys and values, in alternation.
abbrev pub parts_of : {K V : Type 0} → (K → Option Tree) → (V → Option Tree) → List (K × V) → List (Option Tree)
parts_of f g [] = []
parts_of f g (e ∷ es) = f e.0 ∷ g e.1 ∷ parts_of f g es
