-- Adding an entry to a map.
use Rattle.std.proofs.Common.{◌≡◌, Option, Some, None, option_map, sym, ap, ◌∙◌}
use Rattle.amqp_ser.specs.Tree.{Pairs}
use Rattle.amqp_value.specs.Image.{insert_tree}
use Rattle.amqp_value.specs.TreeOf.{tree_of}
use Rattle.amqp_value.specs.declared.value.Value.{Value}
use Rattle.amqp_to_value.specs.HeldImages.{add_tree}

-- The state after the value of a pending key.
pub added_inserted : (old new : Pairs) (before after : Option Value) (k v : Value) → before ≡ Some k → after ≡ None → new ≡ insert_tree old (tree_of k) (tree_of v)
    → (new, option_map tree_of after) ≡ add_tree (old, option_map tree_of before) (tree_of v)
added_inserted old new before after k v was now is = (λ i. (is i, option_map tree_of (now i))) ∙ ap (λ o. add_tree (old, option_map tree_of o) (tree_of v)) (sym was)
