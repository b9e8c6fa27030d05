-- The image of a map, from the images of its keys and values.
use Rattle.std.proofs.Common.{◌≡◌, ◌∙◌, Bool, true, false, List, [], ◌∷◌, Option, Some, None, map, refl, sym, ap}
use Rattle.std.specs.Prelude.{◌||◌}
use Rattle.std.specs.List.{AllByRecursion}
use Rattle.std.specs.Map.{keys_of}
use Rattle.amqp_ser.specs.Compounds.{all_trees, as_kind, as_map, in_pairs, parts_of, prepend, prepend_pair, tree_of_parts}
use Rattle.amqp_ser.specs.Same.{same_tree}
use Rattle.amqp_ser.specs.Tree as tree
use Rattle.amqp_ser.specs.Tree.{Tree, Trees, Pairs, no_pairs, pair}
use Rattle.amqp_ser.specs.declared.kind.CompoundKind.TheVariants as kind
use Rattle.amqp_to_value.specs.HasLazy.{has_lazy, has_lazy_pairs}
use Rattle.amqp_value.specs.Image.{images_onto, insert_tree}
use Rattle.amqp_value.specs.TreeOf.{pairs_of}
use Rattle.amqp_value.proofs.ImageLemmas.{joined, joined_assoc, joined_none, Lacks, insert_tree-new}
use Rattle.amqp_value.proofs.SameLemmas.{same-equal}
use Rattle.amqp_de.specs.Maps.{pair_image, IsPair}
use Rattle.amqp_from_value.proofs.KeyLemmas.{HaveDistinctImages}
use Rattle.amqp_from_value.specs.HasImage.{HasImage}

-- Trees that differ are not the same.
unlike : (t u : Tree) (b : Bool) → same_tree t u ≡ b → ¬ (t ≡ u) → same_tree t u ≡ false
unlike t u true e n = absurd (n (same-equal t u e))
unlike t u false e n = e

lacks_more : (done : Pairs) (k v l : Tree) → Lacks done l → ¬ (k ≡ l) → Lacks (joined done (pair k v no_pairs)) l
lacks_more no_pairs k v l h n = (unlike l k (same_tree l k) refl (λ e. n (sym e)), tt)
lacks_more (pair m w ps) k v l h n = (h.0, lacks_more ps k v l h.1 n)

module _ {K V : Type 0} (f : K → Option Tree) (g : K → Tree) (h : V → Option Tree) (i : V → Tree) where
  -- Each key and each value has the image of that of the entry.
  abbrev Match : Pairs → List (K × V) → Type 0
  Match no_pairs [] = Unit {0}
  Match (pair k v ps) (e ∷ es) = HasImage (Some k) (g e.0) × HasImage (Some v) (i e.1) × Match ps es
  Match no_pairs (e ∷ es) = ⊥
  Match (pair k v ps) [] = ⊥

  abbrev MatchPairs : Option Pairs → List (K × V) → Type 0
  MatchPairs None es = ⊥
  MatchPairs (Some ps) es = Match ps es

  abbrev MatchTrees : Option Trees → List (K × V) → Type 0
  MatchTrees None es = ⊥
  MatchTrees (Some ts) es = MatchPairs (in_pairs ts) es

  pair_matches : (k v : Tree) (o : Option Pairs) (e : K × V) (es : List (K × V)) → HasImage (Some k) (g e.0) → HasImage (Some v) (i e.1) →
      MatchPairs o es → MatchPairs (prepend_pair k v o) (e ∷ es)
  pair_matches k v None e es a b m = absurd m
  pair_matches k v (Some ps) e es a b m = (a, b, m)

  parts_match : (p q : Option Tree) (o : Option Trees) (e : K × V) (es : List (K × V)) → HasImage p (g e.0) → HasImage q (i e.1) →
      MatchTrees o es → MatchTrees (prepend p (prepend q o)) (e ∷ es)
  parts_match None q o e es a b m = absurd a
  parts_match (Some k) None o e es a b m = absurd b
  parts_match (Some k) (Some v) None e es a b m = absurd m
  parts_match (Some k) (Some v) (Some ts) e es a b m = pair_matches k v (in_pairs ts) e es a b m

  -- No key of `done` is the image of a key of the entries.
  abbrev Free : Pairs → List (K × V) → Type 0
  Free done [] = Unit {0}
  Free done (e ∷ es) = Lacks done (g e.0) × Free done es

  free_more : (done : Pairs) (k v : Tree) (es : List (K × V)) → Free done es → AllByRecursion (λ l. ¬ (k ≡ g l)) (keys_of es) →
      Free (joined done (pair k v no_pairs)) es
  free_more done k v [] r d = tt
  free_more done k v (e ∷ es) r d = (lacks_more done k v (g e.0) r.0 d.0, free_more done k v es r.1 d.1)

  free_at_first : (es : List (K × V)) → Free no_pairs es
  free_at_first [] = tt
  free_at_first (e ∷ es) = (tt, free_at_first es)

  -- Pairs whose keys have distinct images are all appended.
  inserted : (ps : Pairs) (es : List (K × V)) (done : Pairs) → Match ps es → Free done es → HaveDistinctImages g (keys_of es) →
      joined done (pairs_of (map (pair_image g i) es)) ≡ images_onto ps done
  inserted no_pairs [] done m r d = joined_none done
  inserted (pair k v ps) (e ∷ es) done m r d =
      sym (joined_assoc done (pair (g e.0) (i e.1) no_pairs) (pairs_of (map (pair_image g i) es)))
      ∙ inserted ps es (joined done (pair (g e.0) (i e.1) no_pairs)) m.2 (free_more done (g e.0) (i e.1) es r.1 d.0) d.1
      ∙ ap (images_onto ps) (sym (insert_tree-new done (g e.0) (i e.1) r.0))
      ∙ (λ j. images_onto ps (insert_tree done (m.0.0 j) (m.1.0 j)))
  inserted no_pairs (e ∷ es) done m r d = absurd m
  inserted (pair k v ps) [] done m r d = absurd m

  none_lazy : (ps : Pairs) (es : List (K × V)) → Match ps es → has_lazy_pairs ps ≡ false
  none_lazy no_pairs es m = refl
  none_lazy (pair k v ps) (e ∷ es) m =
      ap (λ b. b || (has_lazy v || has_lazy_pairs ps)) m.0.1 ∙ ap (λ b. b || has_lazy_pairs ps) m.1.1 ∙ none_lazy ps es m.2
  none_lazy (pair k v ps) [] m = absurd m

  as_map_has_image : (o : Option Pairs) (es : List (K × V)) → MatchPairs o es → HaveDistinctImages g (keys_of es) →
      HasImage (as_map o) (tree.map (pairs_of (map (pair_image g i) es)))
  as_map_has_image None es m d = absurd m
  as_map_has_image (Some ps) es m d = (ap tree.map (inserted ps es no_pairs m (free_at_first es) d), none_lazy ps es m)

  as_kind_has_image : (o : Option Trees) (es : List (K × V)) → MatchTrees o es → HaveDistinctImages g (keys_of es) →
      HasImage (as_kind kind.Map o) (tree.map (pairs_of (map (pair_image g i) es)))
  as_kind_has_image None es m d = absurd m
  as_kind_has_image (Some ts) es m d = as_map_has_image (in_pairs ts) es m d

  module _ (P : K → Type 0) (Q : V → Type 0) (key : (x : K) → P x → HasImage (f x) (g x)) (value : (y : V) → Q y → HasImage (h y) (i y)) where
    all_match : (es : List (K × V)) → AllByRecursion (IsPair P Q) es → MatchTrees (all_trees (parts_of f h es)) es
    all_match [] r = tt
    all_match (e ∷ es) r = parts_match (f e.0) (h e.1) (all_trees (parts_of f h es)) e es (key e.0 r.0.0) (value e.1 r.0.1) (all_match es r.1)

    pub map_has_image : (es : List (K × V)) → AllByRecursion (IsPair P Q) es → HaveDistinctImages g (keys_of es) →
        HasImage (tree_of_parts kind.Map (parts_of f h es)) (tree.map (pairs_of (map (pair_image g i) es)))
    unfolding tree_of_parts
    map_has_image es r d = as_kind_has_image (all_trees (parts_of f h es)) es (all_match es r) d
