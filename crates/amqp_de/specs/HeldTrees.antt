-- The trees of a value that is a source, and of its parts.
use Rattle.std.specs.Prelude.{List, map}
use Rattle.std.specs.Vec.Iter.{into_iter_items}
use Rattle.amqp_ser.specs.Tree.{Tree}
use Rattle.amqp_value.specs.TreeOf.{tree_of}
use Rattle.amqp_de.specs.declared.held_parts.Held.{Held}
use Rattle.amqp_de.specs.declared.held_parts.HeldElements.{HeldElements}
use Rattle.amqp_de.specs.declared.held_parts.HeldEntries.{HeldEntries}

abbrev pub held_tree : Held → Tree
held_tree h = tree_of h.value

abbrev pub held_items : HeldElements → List Tree
held_items e = map tree_of (into_iter_items e.values)

abbrev pub held_pairs : HeldEntries → List (Tree × Tree)
held_pairs e = map (λ p. (tree_of p.0, tree_of p.1)) e.pairs.items
