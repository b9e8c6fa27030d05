-- The marker `Other` leaves the tree unchanged.
use Rattle.std.proofs.Common.{◌≡◌, Option, Some, None, refl}
use Rattle.amqp_ser.specs.Tree.{Tree, scalar, list, array, map, described, variant, lazy, transparent}
use Rattle.amqp_ser.specs.Marked.{with_marker, marked_tree}
use Rattle.amqp_ser.specs.declared.marker.Marker.TheVariants as marker

unmarked_tree : (t : Tree) → marked_tree marker.Other t ≡ Some t
unmarked_tree (scalar s) = refl
unmarked_tree (list ts) = refl
unmarked_tree (array ts) = refl
unmarked_tree (map ps) = refl
unmarked_tree (described d t) = refl
unmarked_tree (variant i t) = refl
unmarked_tree (lazy bs) = refl
unmarked_tree (transparent ts) = refl

pub unmarked : (p : Option Tree) → with_marker marker.Other p ≡ p
unmarked None = refl
unmarked (Some t) = unmarked_tree t
