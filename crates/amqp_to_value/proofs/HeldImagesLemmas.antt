-- Parts that are added one after another.
use Rattle.std.proofs.Common.{◌≡◌, ℕ, List, [], ◌∷◌, ◌++◌, Option, Some, None, Result, Ok, Err, MatchResult, refl, ap, sym, ◌∙◌, subst}
use Rattle.std.specs.declared.alloc.AllocError.{AllocError}
use Rattle.amqp_ser.specs.Tree.{Tree, Trees, Pairs, map, no_trees, more, no_pairs}
use Rattle.amqp_ser.specs.Compounds.{all_trees, as_map, as_variant, prepend_pair, in_pairs, only}
use Rattle.amqp_ser.proofs.Joins.{join, joined, all_trees-append}
use Rattle.amqp_value.specs.Image.{image, images, images_onto, insert_tree}
use Rattle.amqp_value.specs.TreeOf.{tree_of, all_of}
use Rattle.amqp_value.specs.declared.value.Value.{Value}
use Rattle.amqp_to_value.specs.HeldImages.{then, add_tree, added_onto, RefusesOpened, IsOpenedImage}
use Rattle.amqp_to_value.specs.declared.value_error.ValueError.{ValueError}
use Rattle.amqp_to_value.specs.declared.value_error.ValueError.TheVariants as error

pub join_then : (ts : Trees) (t : Tree) → join ts (more t no_trees) ≡ then ts t
join_then no_trees t = refl
join_then (more u ts) t = ap (more u) (join_then ts t)

-- The trees after one more part.
pub all_trees-then : (ps : List (Option Tree)) (ts : Trees) (t : Tree) → all_trees ps ≡ Some ts → all_trees (ps ++ (Some t ∷ [])) ≡ Some (then ts t)
all_trees-then ps ts t h = all_trees-append ps (Some t ∷ []) ∙ ap (λ o. joined o (Some (more t no_trees))) h ∙ ap Some (join_then ts t)

images-then : (ts : Trees) (t : Tree) → images (then ts t) ≡ then (images ts) (image t)
images-then no_trees t = refl
images-then (more u ts) t = ap (more (image u)) (images-then ts t)

all_of-push : (vs : List Value) (v : Value) → all_of (vs ++ (v ∷ [])) ≡ then (all_of vs) (tree_of v)
all_of-push [] v = refl
all_of-push (w ∷ vs) v = ap (more (tree_of w)) (all_of-push vs v)

-- The trees after one more value at the end.
pub all_of-then : (vs : List Value) (v : Value) (ts : Trees) (t : Tree) → all_of vs ≡ images ts → tree_of v ≡ image t → all_of (vs ++ (v ∷ [])) ≡ images (then ts t)
all_of-then vs v ts t h e = all_of-push vs v ∙ (λ i. then (h i) (e i)) ∙ sym (images-then ts t)

-- The state after one more key or value.
pub added_onto-then : (ts : Trees) (t : Tree) (done : Pairs) → added_onto (then ts t) done ≡ add_tree (added_onto ts done) (image t)
added_onto-then no_trees t done = refl
added_onto-then (more k no_trees) t done = refl
added_onto-then (more k (more v ts)) t done = added_onto-then ts t (insert_tree done (image k) (image v))

-- The state at the end: a pending key if the trees are not pairs, and otherwise the images of the
-- pairs.
abbrev pub Ends : Option Pairs → Pairs × Option Tree → Pairs → Type 0
Ends None h done = (k : Tree) × (h.1 ≡ Some k)
Ends (Some ps) h done = h ≡ (images_onto ps done, None)

ends_before : (k v : Tree) (o : Option Pairs) (h : Pairs × Option Tree) (done : Pairs) → Ends o h (insert_tree done (image k) (image v)) → Ends (prepend_pair k v o) h done
ends_before k v None h done e = e
ends_before k v (Some ps) h done e = e

pub ends : (ts : Trees) (done : Pairs) → Ends (in_pairs ts) (added_onto ts done) done
ends no_trees done = refl
ends (more k no_trees) done = (image k, refl)
ends (more k (more v ts)) done = ends_before k v (in_pairs ts) (added_onto (more k (more v ts)) done) done (ends ts (insert_tree done (image k) (image v)))

not_ended : (o : Option Pairs) (h : Pairs × Option Tree) (k : Tree) → Ends o h no_pairs → h.1 ≡ Some k → RefusesOpened error.InvalidValue (as_map o)
not_ended None h k e is = tt
not_ended (Some ps) h k e is = absurd (none-some k (sym (ap (λ x. x.1) e) ∙ is))
  where
    none-some : (k : Tree) → None ≡ Some k → ⊥
    none-some k q = cc

-- A map whose last key has no value has no tree, so `InvalidValue` is permitted.
pub pending_end : (ts : Trees) (k : Tree) → (added_onto ts no_pairs).1 ≡ Some k → RefusesOpened error.InvalidValue (as_map (in_pairs ts))
pending_end ts k is = not_ended (in_pairs ts) (added_onto ts no_pairs) k (ends ts no_pairs) is

ended : (o : Option Pairs) (h : Pairs × Option Tree) (ps : Pairs) (v : Value) → Ends o h no_pairs → h ≡ (ps, None) → tree_of v ≡ map ps → IsOpenedImage (as_map o) (Ok v)
ended None h ps v e is compound_tree = absurd (none-some e.0 (sym (ap (λ x. x.1) is) ∙ e.1))
  where
    none-some : (k : Tree) → None ≡ Some k → ⊥
    none-some k q = cc
ended (Some qs) h ps v e is compound_tree = compound_tree ∙ ap (λ x. map x.0) (sym is ∙ e)

-- The value of a map without a pending key.
pub paired_end : (ts : Trees) (ps : Pairs) (v : Value) → added_onto ts no_pairs ≡ (ps, None) → tree_of v ≡ map ps → IsOpenedImage (as_map (in_pairs ts)) (Ok v)
paired_end ts ps v is compound_tree = ended (in_pairs ts) (added_onto ts no_pairs) ps v (ends ts no_pairs) is compound_tree

even_end : (o : Option Pairs) (h : Pairs × Option Tree) (done ps : Pairs) → Ends o h done → o ≡ Some ps → h.1 ≡ None
even_end None h done ps e is = absurd (none-some ps is)
  where
    none-some : (ps : Pairs) → None ≡ Some ps → ⊥
    none-some ps q = cc
even_end (Some qs) h done ps e is = ap (λ x. x.1) e

added_key : (h : Pairs × Option Tree) (t : Tree) → h.1 ≡ None → ((add_tree h t).0, None) ≡ h
added_key h t is = ap (λ o. ((add_tree (h.0, o) t).0, None)) is ∙ ap (λ o. (h.0, o)) (sym is)

-- Removing the pending key restores the state before it.
pub key_back : (ts : Trees) (ps : Pairs) (t : Tree) (old new : Pairs × Option Tree) → in_pairs ts ≡ Some ps → old ≡ added_onto (then ts t) no_pairs → new ≡ (old.0, None) → new ≡ added_onto ts no_pairs
key_back ts ps t old new p was is =
    is ∙ ap (λ h. (h.0, None)) (was ∙ added_onto-then ts t no_pairs)
    ∙ added_key (added_onto ts no_pairs) (image t) (even_end (in_pairs ts) (added_onto ts no_pairs) no_pairs ps (ends ts no_pairs) p)

-- One element is added, or none on an error.
pub item_taken : (r : Result (Unit {0}) AllocError) (old new : List Value) (v : Value) (ts : Trees) (t : Tree)
    → MatchResult r (λ _. new ≡ old ++ (v ∷ [])) (λ _. new ≡ old) → all_of old ≡ images ts → tree_of v ≡ image t
    → MatchResult r (λ _. all_of new ≡ images (then ts t)) (λ _. all_of new ≡ images ts)
item_taken (Ok u) old new v ts t is h e = ap all_of is ∙ all_of-then old v ts t h e
item_taken (Err e) old new v ts t is h k = ap all_of is ∙ h

-- One key or value is added, or none on an error.
pub pair_taken : (r : Result (Unit {0}) AllocError) (old new : Pairs × Option Tree) (v : Value) (ts : Trees) (t : Tree)
    → MatchResult r (λ _. new ≡ add_tree old (tree_of v)) (λ _. new ≡ old) → old ≡ added_onto ts no_pairs → tree_of v ≡ image t
    → MatchResult r (λ _. new ≡ added_onto (then ts t) no_pairs) (λ _. new ≡ added_onto ts no_pairs)
pair_taken (Ok u) old new v ts t is h e = is ∙ (λ i. add_tree (h i) (e i)) ∙ sym (added_onto-then ts t no_pairs)
pair_taken (Err e) old new v ts t is h k = is ∙ h

-- If there is not exactly one value, `InvalidValue` is permitted for a variant of one value.
pub not_one : (vs : List Value) (ts : Trees) (i : ℕ) → all_of vs ≡ images ts → ((v : Value) → vs ≡ v ∷ [] → ⊥) → RefusesOpened error.InvalidValue (as_variant i (only ts))
not_one vs no_trees i h none = tt
not_one [] (more t no_trees) i h none = cc
not_one (v ∷ []) (more t no_trees) i h none = absurd (none v refl)
not_one (v ∷ (w ∷ vs)) (more t no_trees) i h none = cc
not_one vs (more t (more u ts)) i h none = tt
