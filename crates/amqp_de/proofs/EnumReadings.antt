-- Enums that are read from a list or a map of an index and a value.
use Rattle.std.proofs.Common.{◌≡◌, ℕ, List, [], ◌∷◌, Option, Some, None, refl, sym, subst}
use Rattle.amqp_ser.specs.Tree as tree
use Rattle.amqp_ser.specs.Tree.{Tree, trees_of}
use Rattle.amqp_value.specs.TreeOf.{pairs_of}
use Rattle.amqp_de.specs.Enums.{OnEnum, OnListed, OnKeyed, enum_image}
use Rattle.amqp_de.proofs.Lists.{list_of_trees, entries_in_pairs, one_map}

module _ {V : Type 0} (K : ℕ → Option Tree → V → Type 0) (t : Tree) (x : V) where
  pub of_listed : (ts : List Tree) → t ≡ tree.list (trees_of ts) → OnEnum K t x → OnListed K ts x
  unfolding OnEnum
  of_listed ts is h = let k : OnEnum K (tree.list (trees_of ts)) x = subst (λ u. OnEnum K u x) is h in subst (λ us. OnListed K us x) (list_of_trees ts) k

  pub of_keyed : (ps : List (Tree × Tree)) → t ≡ tree.map (pairs_of ps) → OnEnum K t x → OnKeyed K ps x
  unfolding OnEnum
  of_keyed ps is h = let k : OnEnum K (tree.map (pairs_of ps)) x = subst (λ u. OnEnum K u x) is h in subst (λ qs. OnKeyed K qs x) (entries_in_pairs ps) k

  pub to_keyed : (ps : List (Tree × Tree)) → t ≡ tree.map (pairs_of ps) → OnKeyed K ps x → OnEnum K t x
  unfolding OnEnum
  to_keyed ps is k = rw is (subst (λ qs. OnKeyed K qs x) (sym (entries_in_pairs ps)) k)

-- The image of a variant that is a map has the index and the value.
pub keyed_image : (t : Tree) (ps : List (Tree × Tree)) (n : ℕ) (o : Option Tree) → t ≡ tree.map (pairs_of ps) → t ≡ enum_image n o
    → (u : Tree) × (o ≡ Some u) × (ps ≡ (tree.scalar (tree.uint n), u) ∷ [])
keyed_image t ps n None p q = absurd cc
keyed_image t ps n (Some u) p q = (u, refl, one_map t ps ((tree.scalar (tree.uint n), u) ∷ []) p q)
