use Rattle.std.proofs.Common.{◌≡◌, List, ◌++◌, ◌+◌, ◌≤◌, map, length, vec_len, vec_capacity}
use Rattle.std.specs.Vec.Iter.{into_iter_items, into_iter_len}
use Rattle.std.specs.List.{AllZip}
use Rattle.amqp_ser.specs.Tree.{Tree, scalar}
use Rattle.amqp_value.specs.TreeOf.{tree_of}
use Rattle.amqp_de.proofs.held.HeldSource.scalars.Given as goal

abbrev pub invariant-elements : goal.invariant-elements
invariant-elements g l =
    (done : List Tree) × AllZip (λ t x. t ≡ scalar (g.K.Scalar.content x)) done l.items.items
    × (map tree_of (into_iter_items l.fn.elements.values) ≡ done ++ map tree_of (into_iter_items l.values))
    × (vec_len l.items + into_iter_len l.values ≤ vec_capacity l.items)

abbrev pub decreases-elements : goal.decreases-elements
decreases-elements g l = length (into_iter_items l.values)
