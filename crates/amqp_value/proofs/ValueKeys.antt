-- Equality of values as keys.
use Rattle.std.proofs.Common.{◌≡◌, Bool, true, false, true≢false, List, [], ◌∷◌, refl, sym, ap, ◌∙◌, subst}
use Rattle.amqp_data.specs.Pairs.{insert_pair, insert_pairs}
use Rattle.amqp_ser.specs.Same.{same_tree}
use Rattle.amqp_ser.specs.Tree.{Tree}
use Rattle.amqp_value.specs.Equal.{equal}
use Rattle.amqp_value.specs.MapBuilder.{insert_all}
use Rattle.amqp_value.specs.TreeOf.{tree_of, pairs_trees}
use Rattle.amqp_value.specs.declared.value.Value.{Value}
use Rattle.amqp_value.proofs.SameLemmas.{same-equal, same-itself}
use Rattle.amqp_value.proofs.Sameness.{equal-is_same}
use Rattle.amqp_value.proofs.TreeLemmas.{pairs_trees-insert}

turned : (t u : Tree) (b c : Bool) → same_tree t u ≡ b → same_tree u t ≡ c → b ≡ c
turned t u true true is other = refl
turned t u false false is other = refl
turned t u true false is other = absurd (true≢false (sym (same-itself t) ∙ subst (λ x. same_tree x t ≡ false) (sym (same-equal t u is)) other))
turned t u false true is other = absurd (true≢false (sym (same-itself u) ∙ subst (λ x. same_tree x u ≡ false) (sym (same-equal u t other)) is))

pub equal-symmetric : (a b : Value) → equal a b ≡ equal b a
equal-symmetric a b = equal-is_same a b ∙ turned (tree_of a) (tree_of b) _ _ refl refl ∙ sym (equal-is_same b a)

-- The trees of the entries that are inserted in order.
pub trees_inserted : (es done : List (Value × Value)) → pairs_trees (insert_pairs equal es done) ≡ insert_all es (pairs_trees done)
trees_inserted [] done = refl
trees_inserted (e ∷ es) done = trees_inserted es (insert_pair equal done e.0 e.1) ∙ ap (insert_all es) (pairs_trees-insert done e.0 e.1)
