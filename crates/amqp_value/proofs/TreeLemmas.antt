-- The trees of values that contain values, and of the parts from which they are built.
use Rattle.std.proofs.Common.{◌≡◌, Bool, true, false, true≢false, if◌then◌else◌, List, [], ◌∷◌, ◌++◌, Some, Box, Vec, Global, map, refl, sym, ap, ◌∙◌, rules}
use Rattle.amqp_data.specs.Items.{array_items}
use Rattle.amqp_data.specs.Pairs.{entries_of, insert_pair}
use Rattle.amqp_data.specs.declared.array.Array as array
use Rattle.amqp_data.specs.declared.described.Described.{Described}
use Rattle.amqp_data.specs.declared.ordered_map.OrderedMap as ordered_map
use Rattle.amqp_ser.specs.Carried.{descriptor_content}
use Rattle.amqp_ser.specs.Tree as tree
use Rattle.amqp_ser.specs.Tree.{Tree, trees_of, more, pair}
use Rattle.amqp_ser.specs.Compounds.{all_trees, prepend, prepend_pair, in_pairs, as_map, as_kind, tree_of_parts, parts_of}
use Rattle.amqp_ser.specs.Marked.{with_marker}
use Rattle.amqp_ser.specs.declared.kind.CompoundKind.TheVariants as kind
use Rattle.amqp_ser.specs.declared.marker.Marker.TheVariants as marker
use Rattle.amqp_value.specs.Image.{insert_tree}
use Rattle.amqp_value.specs.TreeOf.{tree_of, all_of, pairs_of, pairs_trees}
use Rattle.amqp_value.specs.declared.value.Value.{Value, the_lemmas}
use Rattle.amqp_value.specs.declared.value.Value.TheVariants.{Described as DescribedValue, List as ListValue, Map as MapValue, Array as ArrayValue}
use Rattle.amqp_ser.proofs.Joins.{join}
use Rattle.amqp_value.proofs.ImageLemmas.{joined}
use Rattle.amqp_value.proofs.Sameness.{equal, equal-is_same}

pub tree_of-Described : (b : Box (Described Value) Global) → tree_of (DescribedValue b) ≡ tree.described (descriptor_content b.value.descriptor) (tree_of b.value.value)
tree_of-Described b = search (rules, the_lemmas)

pub tree_of-List : (v : Vec Value Global) → tree_of (ListValue v) ≡ tree.list (all_of v.items)
tree_of-List v = search (rules, the_lemmas)

pub tree_of-Map : (m : ordered_map.OrderedMap Value Value) → tree_of (MapValue m) ≡ tree.map (pairs_trees (entries_of m))
tree_of-Map m = search (rules, the_lemmas)

pub tree_of-Array : (a : array.Array Value) → tree_of (ArrayValue a) ≡ tree.array (all_of (array_items a))
tree_of-Array a = search (rules, the_lemmas)

-- The trees of values followed by other values, and of entries followed by other entries.
pub all_of-append : (vs ws : List Value) → all_of (vs ++ ws) ≡ join (all_of vs) (all_of ws)
all_of-append [] ws = refl
all_of-append (v ∷ vs) ws = ap (more (tree_of v)) (all_of-append vs ws)

pub pairs_trees-append : (es fs : List (Value × Value)) → pairs_trees (es ++ fs) ≡ joined (pairs_trees es) (pairs_trees fs)
pairs_trees-append [] fs = refl
pairs_trees-append (e ∷ es) fs = ap (pair (tree_of e.0) (tree_of e.1)) (pairs_trees-append es fs)

-- If every part has a tree, all of them have trees.
pub all_trees-Some : {X : Type 0} (f : X → Tree) (xs : List X) → all_trees (map (λ x. Some (f x)) xs) ≡ Some (trees_of (map f xs))
all_trees-Some f [] = refl
all_trees-Some f (x ∷ xs) = ap (prepend (Some (f x))) (all_trees-Some f xs)

-- The parts make a list.
pub whole-List : {X : Type 0} (f : X → Tree) (xs : List X) → tree_of_parts kind.List (map (λ x. Some (f x)) xs) ≡ Some (tree.list (trees_of (map f xs)))
unfolding tree_of_parts
whole-List f xs = ap (as_kind kind.List) (all_trees-Some f xs)

-- The keys and values in turn.
abbrev in_turn : List (Tree × Tree) → List Tree
in_turn [] = []
in_turn (e ∷ es) = e.0 ∷ e.1 ∷ in_turn es

module _ {K V : Type 0} (f : K → Tree) (g : V → Tree) where
  abbrev both : K × V → Tree × Tree
  both e = (f e.0, g e.1)

  parts_of-Some : (es : List (K × V)) → all_trees (parts_of (λ k. Some (f k)) (λ v. Some (g v)) es) ≡ Some (trees_of (in_turn (map both es)))
  parts_of-Some [] = refl
  parts_of-Some (e ∷ es) = ap (λ ts. prepend (Some (f e.0)) (prepend (Some (g e.1)) ts)) (parts_of-Some es)

  in_pairs-in_turn : (es : List (Tree × Tree)) → in_pairs (trees_of (in_turn es)) ≡ Some (pairs_of es)
  in_pairs-in_turn [] = refl
  in_pairs-in_turn (e ∷ es) = ap (prepend_pair e.0 e.1) (in_pairs-in_turn es)

  -- The parts make a map.
  pub whole-Map : (es : List (K × V)) → tree_of_parts kind.Map (parts_of (λ k. Some (f k)) (λ v. Some (g v)) es) ≡ Some (tree.map (pairs_of (map both es)))
  unfolding tree_of_parts
  whole-Map es = ap (as_kind kind.Map) (parts_of-Some es) ∙ ap as_map (in_pairs-in_turn (map both es))

-- A container of values is serialized as the tree of the value that contains it.
pub list-tree : (v : Vec Value Global) → tree_of_parts kind.List (map (λ x. Some (tree_of x)) v.items) ≡ Some (tree_of (ListValue v))
list-tree v = whole-List tree_of v.items ∙ ap Some (sym (tree_of-List v))

pub map-tree : (m : ordered_map.OrderedMap Value Value)
    → tree_of_parts kind.Map (parts_of (λ k. Some (tree_of k)) (λ v. Some (tree_of v)) (entries_of m)) ≡ Some (tree_of (MapValue m))
map-tree m = whole-Map tree_of tree_of (entries_of m) ∙ ap Some (sym (tree_of-Map m))

pub array-tree : (a : array.Array Value) → with_marker marker.Array (tree_of_parts kind.List (map (λ x. Some (tree_of x)) (array_items a))) ≡ Some (tree_of (ArrayValue a))
array-tree a = ap (with_marker marker.Array) (whole-List tree_of (array_items a)) ∙ ap Some (sym (tree_of-Array a))

module _ (k v : Value) (e : Value × Value) (es : List (Value × Value)) (rest : pairs_trees (insert_pair equal es k v) ≡ insert_tree (pairs_trees es) (tree_of k) (tree_of v)) where
  present_or_not : (b c : Bool) → b ≡ c → pairs_trees (if b then (e.0, v) ∷ es else e ∷ insert_pair equal es k v)
      ≡ (if c then pair (tree_of e.0) (tree_of v) (pairs_trees es) else pair (tree_of e.0) (tree_of e.1) (insert_tree (pairs_trees es) (tree_of k) (tree_of v)))
  present_or_not true true is = refl
  present_or_not true false is = absurd (true≢false is)
  present_or_not false true is = absurd (true≢false (sym is))
  present_or_not false false is = ap (pair (tree_of e.0) (tree_of e.1)) rest

-- Inserting a pair of values inserts the pair of their trees.
pub pairs_trees-insert : (es : List (Value × Value)) (k v : Value) → pairs_trees (insert_pair equal es k v) ≡ insert_tree (pairs_trees es) (tree_of k) (tree_of v)
pairs_trees-insert [] k v = refl
pairs_trees-insert (e ∷ es) k v = present_or_not k v e es (pairs_trees-insert es k v) _ _ (equal-is_same k e.0)
