-- What an open compound contains, in terms of the trees that were serialized into it, after their
-- lazy trees are read.
use Rattle.std.specs.Prelude.{◌≡◌, Bool, true, false, Option, Some, None, Result, Ok, Err, option_map}
use Rattle.amqp_ser.specs.Tree.{Tree, Trees, Pairs, no_trees, more, no_pairs}
use Rattle.amqp_ser.specs.Compounds.{as_kind}
use Rattle.amqp_ser.specs.Marked.{with_marker}
use Rattle.amqp_ser.specs.declared.kind.CompoundKind.{CompoundKind}
use Rattle.amqp_ser.specs.declared.kind.CompoundKind.TheVariants as kind
use Rattle.amqp_ser.specs.declared.marker.Marker.TheVariants as marker
use Rattle.amqp_value.specs.Image.{image, images, insert_tree}
use Rattle.amqp_value.specs.TreeOf.{tree_of, all_of}
use Rattle.amqp_value.specs.declared.value.Value.{Value}
use Rattle.amqp_value.specs.MapBuilder.{collected_pairs}
use Rattle.amqp_to_value.specs.declared.open_map.OpenMap.{OpenMap}
use Rattle.amqp_to_value.specs.declared.parts.CollectedParts.{CollectedParts}
use Rattle.amqp_to_value.specs.declared.parts.CollectedParts.TheVariants as compound
use Rattle.amqp_to_value.specs.declared.value_error.ValueError.{ValueError}
use Rattle.amqp_to_value.specs.declared.value_error.ValueError.TheVariants as error

-- These trees and one more at the end.
abbrev pub then : Trees → Tree → Trees
then no_trees t = more t no_trees
then (more u ts) t = more u (then ts t)

-- The images of a map's entries, and of the key whose value is pending.
abbrev pub held_pairs : OpenMap → Pairs × Option Tree
held_pairs g = (collected_pairs g.pairs, option_map tree_of g.key)

-- Adds a key, or the value of the pending key.
abbrev pub add_tree : Pairs × Option Tree → Tree → Pairs × Option Tree
add_tree compound t = by compound.1
  where
    by : Option Tree → Pairs × Option Tree
    by None = (compound.0, Some t)
    by (Some k) = (insert_tree compound.0 k t, None)

-- The entries and the pending key after keys and values in turn.
abbrev pub added_onto : Trees → Pairs → Pairs × Option Tree
added_onto no_trees done = (done, None)
added_onto (more k no_trees) done = (done, Some (image k))
added_onto (more k (more v ts)) done = added_onto ts (insert_tree done (image k) (image v))

-- The compound contains the images of these trees, in order.
abbrev pub HoldsImages : CollectedParts → Trees → Type 0
HoldsImages (compound.List v) ts = all_of v.items ≡ images ts
HoldsImages (compound.Array v) ts = all_of v.items ≡ images ts
HoldsImages (compound.Transparent v) ts = all_of v.items ≡ images ts
HoldsImages (compound.Map g) ts = held_pairs g ≡ added_onto ts no_pairs
HoldsImages (compound.Variant i v) ts = all_of v.items ≡ images ts
HoldsImages (compound.NewtypeVariant i v) ts = all_of v.items ≡ images ts
HoldsImages compound.Refused ts = Unit {0}

-- Whether the compound is a single value.
abbrev pub is_single : CompoundKind → Bool
is_single kind.Single = true
is_single k = false

-- The tree that a compound makes from its parts.
abbrev pub compound_tree : CollectedParts → Option Trees → Option Tree
compound_tree (compound.List v) ts = as_kind kind.List ts
compound_tree (compound.Array v) ts = with_marker marker.Array (as_kind kind.List ts)
compound_tree (compound.Transparent v) ts = with_marker marker.Transparent (as_kind kind.List ts)
compound_tree (compound.Map g) ts = as_kind kind.Map ts
compound_tree (compound.Variant i v) ts = as_kind (kind.Variant i) ts
compound_tree (compound.NewtypeVariant i v) ts = as_kind (kind.NewtypeVariant i) ts
compound_tree compound.Refused ts = None

-- The errors that are permitted for a tree without lazy trees, or for none: out of memory for any,
-- and invalid for none.
abbrev pub RefusesOpened : ValueError → Option Tree → Type 0
RefusesOpened error.OutOfMemory t = Unit {0}
RefusesOpened error.InvalidValue None = Unit {0}
RefusesOpened e t = ⊥

abbrev pub IsOpenedImage : Option Tree → Result Value ValueError → Type 0
IsOpenedImage None (Ok v) = ⊥
IsOpenedImage (Some t) (Ok v) = tree_of v ≡ image t
IsOpenedImage t (Err e) = RefusesOpened e t

-- The compound takes keys and values in turn.
abbrev pub TakesPairs : CollectedParts → Type 0
TakesPairs (compound.Map g) = Unit {0}
TakesPairs compound.Refused = Unit {0}
TakesPairs o = ⊥
