-- The trees of types that are written by the parts of a shape (AMQP 1.0 part 1, sections 1.1.2 and
-- 1.4).
use Rattle.std.specs.Prelude.{ℕ, List, [], Option, Some}
use Rattle.amqp_ser.specs.Composites.{as_described}
use Rattle.amqp_ser.specs.Tree.{Tree, code}

module _ {T V : Type 0} where
  -- The tree of the parts, whose fields have these names.
  abbrev pub tree_by_names : List (List ℕ) → (List (List ℕ) → V → Option Tree) → (T → V) → T → Option Tree
  tree_by_names ns tree parts x = tree ns (parts x)

  -- The same for parts that are written whatever the names are.
  abbrev pub tree_by_parts : (List (List ℕ) → V → Option Tree) → (T → V) → T → Option Tree
  tree_by_parts tree parts x = tree [] (parts x)

  -- Both after a code.
  abbrev pub after_code_by_names : ℕ → List (List ℕ) → (List (List ℕ) → V → Option Tree) → (T → V) → T → Option Tree
  after_code_by_names c ns tree parts x = as_described (Some (code c)) (tree ns (parts x))

  abbrev pub after_code : ℕ → (List (List ℕ) → V → Option Tree) → (T → V) → T → Option Tree
  after_code c tree parts x = as_described (Some (code c)) (tree [] (parts x))
