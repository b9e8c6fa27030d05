-- Equality of maps, entry by entry.
use Rattle.std.proofs.Common.{◌≡◌, Bool, true, false, ◌&&◌, List, [], ◌∷◌, refl, sym, ap, ◌∙◌}
use Rattle.std.specs.Cmp.Lexicographic.{pointwise}
use Rattle.amqp_data.specs.Pairs.{entries_of}
use Rattle.amqp_data.specs.declared.ordered_map.OrderedMap.{OrderedMap}
use Rattle.amqp_ser.specs.Same.{same_tree, same_pairs}
use Rattle.amqp_value.specs.TreeOf.{pairs_trees}
use Rattle.amqp_value.specs.declared.value.Value.{Value}
use Rattle.amqp_value.specs.declared.value.Value.TheVariants as kind
use Rattle.amqp_value.proofs.Sameness.{equal, equal-is_same}
use Rattle.amqp_value.proofs.TreeLemmas.{tree_of-Map}

-- Two entries are equal.
abbrev pub pairs_equal : Value × Value → Value × Value → Bool
pairs_equal p q = equal p.0 q.0 && equal p.1 q.1

pairs : (es fs : List (Value × Value)) → pointwise pairs_equal es fs ≡ same_pairs (pairs_trees es) (pairs_trees fs)
pairs [] [] = refl
pairs [] (f ∷ fs) = refl
pairs (e ∷ es) [] = refl
pairs (e ∷ es) (f ∷ fs) = λ i. (equal-is_same e.0 f.0 i && equal-is_same e.1 f.1 i) && pairs es fs i

pub maps-equal : (m n : OrderedMap Value Value) → equal (kind.Map m) (kind.Map n) ≡ pointwise pairs_equal (entries_of m) (entries_of n)
maps-equal m n =
    equal-is_same (kind.Map m) (kind.Map n) ∙ (λ i. same_tree (tree_of-Map m i) (tree_of-Map n i))
    ∙ sym (pairs (entries_of m) (entries_of n))

pub turned-unequal : (m n : OrderedMap Value Value) (k l v w : Value) → entries_of m ≡ (k, v) ∷ (l, w) ∷ [] → entries_of n ≡ (l, w) ∷ (k, v) ∷ []
    → equal k l ≡ false → equal (kind.Map m) (kind.Map n) ≡ false
turned-unequal m n k l v w is turned apart =
    maps-equal m n ∙ (λ i. pointwise pairs_equal (is i) (turned i))
    ∙ ap (λ b. (b && equal v w) && ((equal l k && equal w v) && true)) apart
