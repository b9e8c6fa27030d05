-- Trees whose lazy trees are read, and the compounds of such trees.
use Rattle.std.proofs.Common.{◌≡◌, ℕ, List, [], ◌∷◌, Option, Some, None, Result, Ok, Err, refl, ap, sym, ◌∙◌, subst}
use Rattle.amqp_ser.specs.Tree.{Descriptor, Tree, Trees, Pairs, list, described, variant, no_trees, more, no_pairs}
use Rattle.amqp_ser.specs.Compounds.{as_map, as_variant, in_pairs, prepend_pair, only}
use Rattle.amqp_value.specs.declared.value.Value.{Value}
use Rattle.amqp_to_value.specs.HeldImages.{then, compound_tree, IsOpenedImage}
use Rattle.amqp_to_value.specs.ImageOf.{Answers}
use Rattle.amqp_to_value.specs.Opened.{Opened, AreOpened, HasOpenedPairs}
use Rattle.amqp_to_value.specs.PendingDescriptors.{under_descriptors}
use Rattle.amqp_to_value.specs.declared.parts.CollectedParts.{CollectedParts}
use Rattle.amqp_to_value.specs.declared.parts.CollectedParts.TheVariants as compound
use Rattle.amqp_to_value.specs.declared.value_error.ValueError.{ValueError}
use Rattle.amqp_to_value.specs.declared.value_error.ValueError.TheVariants as error

-- One more tree at the end.
pub opened-then : (ts us : Trees) (t u : Tree) → AreOpened ts us → Opened t u → AreOpened (then ts t) (then us u)
opened-then no_trees us t u e o = (u, no_trees, ap (λ x. then x u) e, o, refl)
opened-then (more x ts) us t u h o = (h.0, then h.1 u, ap (λ x. then x u) h.2, h.3, opened-then ts h.1 t u h.4 o)

-- The last tree.
pub opened-last : (ts : Trees) (t : Tree) (us : Trees) → AreOpened (then ts t) us → (ys : Trees) × (y : Tree) × (us ≡ then ys y) × AreOpened ts ys
opened-last no_trees t us h = (no_trees, h.0, h.2 ∙ ap (more h.0) h.4, refl)
opened-last (more x ts) t us h =
    let r = opened-last ts t h.1 h.4 in
    (more h.0 r.0, r.1, h.2 ∙ ap (more h.0) r.2, (h.0, r.0, refl, h.3, r.3))

-- The pairs of keys and values in turn, before and after they are read.
abbrev PairsOpened : Option Pairs → Option Pairs → Type 0
PairsOpened None None = Unit {0}
PairsOpened (Some ps) (Some qs) = HasOpenedPairs ps qs
PairsOpened None (Some qs) = ⊥
PairsOpened (Some ps) None = ⊥

pair_opened : (k v l w : Tree) (o q : Option Pairs) → Opened k l → Opened v w → PairsOpened o q → PairsOpened (prepend_pair k v o) (prepend_pair l w q)
pair_opened k v l w None None ok ov h = tt
pair_opened k v l w None (Some qs) ok ov h = absurd h
pair_opened k v l w (Some ps) None ok ov h = absurd h
pair_opened k v l w (Some ps) (Some qs) ok ov h = (l, w, qs, refl, ok, ov, h)

pairs_opened : (ts us : Trees) → AreOpened ts us → PairsOpened (in_pairs ts) (in_pairs us)
pairs_opened no_trees us e = subst (λ x. PairsOpened (Some no_pairs) (in_pairs x)) (sym e) refl
pairs_opened (more k no_trees) us h = subst (λ x. PairsOpened None (in_pairs x)) (sym (h.2 ∙ ap (more h.0) h.4)) tt
pairs_opened (more k (more v ts)) us h =
    let r = h.4 in
    subst (λ x. PairsOpened (prepend_pair k v (in_pairs ts)) (in_pairs x)) (sym (h.2 ∙ ap (more h.0) r.2))
    (pair_opened k v h.0 r.0 (in_pairs ts) (in_pairs r.1) h.3 r.3 (pairs_opened ts r.1 r.4))

some_too : (o q : Option Pairs) (ps : Pairs) → PairsOpened o q → o ≡ Some ps → (qs : Pairs) × (q ≡ Some qs)
some_too None q ps h e = absurd (none-some ps e)
  where
    none-some : (ps : Pairs) → None ≡ Some ps → ⊥
    none-some ps e = cc
some_too (Some os) None ps h e = absurd h
some_too (Some os) (Some qs) ps h e = (qs, refl)

-- If the trees are pairs, they are still pairs after they are read.
pub still_pairs : (ts us : Trees) (ps : Pairs) → AreOpened ts us → in_pairs ts ≡ Some ps → (qs : Pairs) × (in_pairs us ≡ Some qs)
still_pairs ts us ps h e = some_too (in_pairs ts) (in_pairs us) ps (pairs_opened ts us h) e

-- A tree before and after it is read, or none.
abbrev pub IsOpened : Option Tree → Option Tree → Type 0
IsOpened None None = Unit {0}
IsOpened (Some t) (Some u) = Opened t u
IsOpened None (Some u) = ⊥
IsOpened (Some t) None = ⊥

map_opened : (o q : Option Pairs) → PairsOpened o q → IsOpened (as_map o) (as_map q)
map_opened None None h = tt
map_opened None (Some qs) h = absurd h
map_opened (Some ps) None h = absurd h
map_opened (Some ps) (Some qs) h = (qs, refl, h)

one_opened : (i : ℕ) (ts us : Trees) → AreOpened ts us → IsOpened (as_variant i (only ts)) (as_variant i (only us))
one_opened i no_trees us e = subst (λ x. IsOpened None (as_variant i (only x))) (sym e) tt
one_opened i (more t no_trees) us h = subst (λ x. IsOpened (Some (variant i t)) (as_variant i (only x))) (sym (h.2 ∙ ap (more h.0) h.4)) (h.0, refl, h.3)
one_opened i (more t (more v ts)) us h = subst (λ x. IsOpened None (as_variant i (only x))) (sym (h.2 ∙ ap (more h.0) h.4.2)) tt

-- A compound of parts that are read.
pub compound_opened : (p : CollectedParts) (ts us : Trees) → AreOpened ts us → IsOpened (compound_tree p (Some ts)) (compound_tree p (Some us))
compound_opened (compound.List v) ts us h = (us, refl, h)
compound_opened (compound.Array v) ts us h = (us, refl, h)
compound_opened (compound.Transparent v) ts us h = (us, refl, h)
compound_opened (compound.Map g) ts us h = map_opened (in_pairs ts) (in_pairs us) (pairs_opened ts us h)
compound_opened (compound.Variant i v) ts us h = (list us, refl, (us, refl, h))
compound_opened (compound.NewtypeVariant i v) ts us h = one_opened i ts us h
compound_opened compound.Refused ts us h = tt

-- A result that is permitted for the tree after it is read is permitted for the tree.
pub opened_answer : (o q : Option Tree) (r : Result Value ValueError) → IsOpened o q → IsOpenedImage q r → Answers o r
opened_answer None None (Ok v) h g = absurd g
opened_answer None (Some u) (Ok v) h g = absurd h
opened_answer (Some t) None (Ok v) h g = absurd h
opened_answer (Some t) (Some u) (Ok v) h g = (u, h, g)
opened_answer o q (Err error.OutOfMemory) h g = tt
opened_answer None None (Err error.InvalidValue) h g = tt
opened_answer None (Some u) (Err error.InvalidValue) h g = absurd h
opened_answer (Some t) None (Err error.InvalidValue) h g = absurd h
opened_answer (Some t) (Some u) (Err error.InvalidValue) h g = absurd g
opened_answer o q (Err e) h g = absurd g

-- A described tree is read as the described tree that its content is read as.
pub opened_in : (ds : List Descriptor) (t u : Tree) → Opened t u → Opened (under_descriptors ds t) (under_descriptors ds u)
opened_in [] t u o = o
opened_in (d ∷ ds) t u o = (under_descriptors ds u, refl, opened_in ds t u o)

-- A tree as which a described tree is read has the same descriptors.
pub opened_inside : (ds : List Descriptor) (t u : Tree) → Opened (under_descriptors ds t) u → (w : Tree) × (u ≡ under_descriptors ds w) × Opened t w
opened_inside [] t u o = (u, refl, o)
opened_inside (d ∷ ds) t u o =
    let r = opened_inside ds t o.0 o.2 in
    (r.0, o.1 ∙ ap (described d) r.1, r.2)
