-- Maps of alternating keys and values.
use Rattle.std.proofs.Common.{◌≡◌, List, [], ◌∷◌, Option, Some, None, true, false, not, refl, Bool}
use Rattle.amqp_ser.specs.Tree.{Tree, Trees, Pairs, no_trees}
use Rattle.amqp_ser.specs.Compounds.{all_trees, prepend, prepend_pair, in_pairs, as_map, as_kind, tree_of_parts, paired}
use Rattle.amqp_ser.specs.declared.kind.CompoundKind.TheVariants.{Map}

not_a_map : (k v : Tree) (o : Option Pairs) → as_map o ≡ None → as_map (prepend_pair k v o) ≡ None
not_a_map k v None h = refl
not_a_map k v (Some ps) h = cc

two_more : (p q : Option Tree) (o : Option Trees) → as_kind Map o ≡ None → as_kind Map (prepend p (prepend q o)) ≡ None
two_more None q o h = refl
two_more (Some t) None o h = refl
two_more (Some t) (Some u) None h = refl
two_more (Some t) (Some u) (Some ts) h = not_a_map t u (in_pairs ts) h

one_key : (p : Option Tree) → as_kind Map (prepend p (Some no_trees)) ≡ None
one_key None = refl
one_key (Some t) = refl

not_not : (b : Bool) → not (not b) ≡ false → b ≡ false
not_not true h = h
not_not false h = refl

-- An odd number of parts has no tree as a map.
pub odd_map : (ps : List (Option Tree)) → paired ps ≡ false → tree_of_parts Map ps ≡ None
unfolding tree_of_parts
odd_map [] h = cc
odd_map (p ∷ []) h = one_key p
odd_map (p ∷ (q ∷ ps)) h = two_more p q (all_trees ps) (odd_map ps (not_not (paired ps) h))
