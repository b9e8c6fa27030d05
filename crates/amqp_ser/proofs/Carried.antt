-- The trees of elements in order: a list, an array, a transparent tree and a variant of them.
use Rattle.std.proofs.Common.{◌≡◌, ℕ, List, Option, Some, None, option_map, refl}
use Rattle.amqp_ser.specs.Tree as tree
use Rattle.amqp_ser.specs.Tree.{Tree, Trees}
use Rattle.amqp_ser.specs.Compounds.{all_trees, as_kind, tree_of_parts}
use Rattle.amqp_ser.specs.Marked.{with_marker}
use Rattle.amqp_ser.specs.declared.kind.CompoundKind.TheVariants as kind
use Rattle.amqp_ser.specs.declared.marker.Marker.TheVariants as marker

list_kind : (o : Option Trees) → as_kind kind.List o ≡ option_map tree.list o
list_kind None = refl
list_kind (Some ts) = refl

array_kind : (o : Option Trees) → with_marker marker.Array (as_kind kind.List o) ≡ option_map tree.array o
array_kind None = refl
array_kind (Some ts) = refl

transparent_kind : (o : Option Trees) → with_marker marker.Transparent (as_kind kind.List o) ≡ option_map tree.transparent o
transparent_kind None = refl
transparent_kind (Some ts) = refl

variant_kind : (i : ℕ) (o : Option Trees) → as_kind (kind.Variant i) o ≡ option_map (λ ts. tree.variant i (tree.list ts)) o
variant_kind i None = refl
variant_kind i (Some ts) = refl

pub whole_list : (ps : List (Option Tree)) → tree_of_parts kind.List ps ≡ option_map tree.list (all_trees ps)
unfolding tree_of_parts
whole_list ps = list_kind (all_trees ps)

pub whole_array : (ps : List (Option Tree)) → with_marker marker.Array (tree_of_parts kind.List ps) ≡ option_map tree.array (all_trees ps)
unfolding tree_of_parts
whole_array ps = array_kind (all_trees ps)

pub whole_transparent : (ps : List (Option Tree)) → with_marker marker.Transparent (tree_of_parts kind.List ps) ≡ option_map tree.transparent (all_trees ps)
unfolding tree_of_parts
whole_transparent ps = transparent_kind (all_trees ps)

pub whole_variant : (i : ℕ) (ps : List (Option Tree)) → tree_of_parts (kind.Variant i) ps ≡ option_map (λ ts. tree.variant i (tree.list ts)) (all_trees ps)
unfolding tree_of_parts
whole_variant i ps = variant_kind i (all_trees ps)
