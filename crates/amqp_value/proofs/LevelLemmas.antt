-- A function of two values that is computed level by level is a function of their trees.
use Rattle.std.proofs.Common.{◌≡◌, sym, ap, ◌∙◌, subst}
use Rattle.amqp_ser.specs.Tree.{Tree}
use Rattle.amqp_value.specs.TreeOf.{tree_of, tree_step}
use Rattle.amqp_value.specs.declared.value.Value.{Value, out-Value, roll-Value, out-roll-Value, roll-out-Value, ind-Value, map-Value, fold-roll-Value}
use Rattle.amqp_value.specs.declared.value.Value.TheOpen.{Value-F}

-- One level of the tree.
abbrev pub layer : Value-F Value → Tree
layer x = tree_step (map-Value Value Tree tree_of x)

module _ {R : Type 0} (of_values : Value → Value → R) (of_trees : Tree → Tree → R) where
  abbrev pub Agrees : Value → Type 0
  Agrees a = (b : Value) → of_values a b ≡ of_trees (tree_of a) (tree_of b)

  abbrev pub Such : Type 0
  Such = (a : Value) × Agrees a

  abbrev pub plain : Such → Value
  plain e = e.0

  abbrev pub both : Such × Such → Value × Value
  both e = (plain e.0, plain e.1)

  module _ (level : Value-F Value → Value-F Value → R)
      (opened : (a b : Value) → of_values a b ≡ level (out-Value a) (out-Value b))
      (core : (y : Value-F Such) (z : Value-F Value) → level (map-Value Such Value plain y) z ≡ of_trees (layer (map-Value Such Value plain y)) (layer z)) where
    rolled : (x z : Value-F Value) → of_values (roll-Value x) (roll-Value z) ≡ level x z
    rolled x z =
        opened (roll-Value x) (roll-Value z) ∙ ap (λ u. level u (out-Value (roll-Value z))) (out-roll-Value x)
        ∙ ap (λ u. level x u) (out-roll-Value z)

    module _ (y : Value-F Such) where
      -- A value whose contents have the property.
      abbrev built : Value
      built = roll-Value (map-Value Such Value plain y)

      rolls : (z : Value-F Value) → of_values built (roll-Value z) ≡ of_trees (tree_of built) (tree_of (roll-Value z))
      rolls z =
          rolled (map-Value Such Value plain y) z ∙ core y z
          ∙ ap (λ t. of_trees t (layer z)) (sym (fold-roll-Value Tree tree_step (map-Value Such Value plain y)))
          ∙ ap (λ t. of_trees (tree_of built) t) (sym (fold-roll-Value Tree tree_step z))

      built_agrees : Agrees built
      built_agrees b = subst (λ c. of_values built c ≡ of_trees (tree_of built) (tree_of c)) (roll-out-Value b) (rolls (out-Value b))

    pub agree : (a : Value) → Agrees a
    agree = ind-Value Agrees (λ x y is. subst (λ z. Agrees (roll-Value z)) is (built_agrees y))
