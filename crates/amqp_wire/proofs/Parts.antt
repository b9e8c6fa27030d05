-- Arrays without elements in parts, and in the compound that they make.
use Rattle.std.proofs.Common.{◌≡◌, ℕ, List, [], ◌∷◌, ◌++◌, Option, Some, None, Ok, Err, Bool, true, false, ◌||◌, is_some, not, refl, ap, sym, ◌∙◌, subst}
use Rattle.amqp_ser.specs.Tree.{Tree, Trees, Pairs, list, map, variant, no_trees, more}
use Rattle.amqp_ser.specs.Compounds.{all_trees, prepend, prepend_pair, in_pairs, as_kind, as_map, as_variant, only, tree_of_parts, paired, complete}
use Rattle.amqp_ser.specs.declared.kind.CompoundKind.{CompoundKind}
use Rattle.amqp_ser.specs.declared.kind.CompoundKind.TheVariants as kinds
use Rattle.amqp_ser.specs.declared.marker.Marker.TheVariants as marker
use Rattle.amqp_ser.proofs.Joins.{join, joined}
use Rattle.amqp_ser.proofs.Last.{last_off, paired-last}
use Rattle.amqp_ser.proofs.Meant.{never, joined_none, single_meant, no_compound, makes_tree, complete_meant}
use Rattle.amqp_ser.proofs.Unmarked.{unmarked}
use Rattle.amqp_wire.specs.EmptyArrays.{has_empty_array, any_has, any_pair_has, Finds}
use Rattle.amqp_wire.specs.Finder.{FindsInParts, Holds, fresh, is_empty_array}
use Rattle.amqp_ser.specs.Meant.{fits, meant, meant_parts}
use Rattle.amqp_wire.proofs.Meanings.{none_of_parts, trees_more, for_next}
use Rattle.amqp_wire.specs.declared.finder.Finder.{Finder}
use Rattle.amqp_wire.specs.declared.finder.NoTree.{NoTree}
use Rattle.amqp_wire.specs.declared.finder.Searched.{Searched}
use Rattle.amqp_ser.specs.declared.pending.Pending.{Pending}
use Rattle.amqp_ser.specs.declared.pending.Pending.TheVariants as pending

or_assoc : (a b c : Bool) → (a || (b || c)) ≡ ((a || b) || c)
or_assoc true b c = refl
or_assoc false b c = refl

or_false : (b : Bool) → (b || false) ≡ b
or_false true = refl
or_false false = refl

or_true : (b : Bool) → (b || true) ≡ true
or_true true = refl
or_true false = refl

any_has-join : (ts us : Trees) → any_has (join ts us) ≡ (any_has ts || any_has us)
any_has-join no_trees us = refl
any_has-join (more t ts) us = ap (λ b. has_empty_array t || b) (any_has-join ts us) ∙ or_assoc (has_empty_array t) (any_has ts) (any_has us)

one_more : (o : Option Trees) (q : Option Tree) (m n : Bool) → FindsInParts o m → Finds {E = NoTree} q (Ok n) → FindsInParts (joined o (prepend q (Some no_trees))) (m || n)
one_more None q m n h g = h
one_more (Some ts) None m n h g = g
one_more (Some ts) (Some t) m n h g =
    ap (λ x. x || n) h ∙ (ap (λ x. any_has ts || x) (g ∙ sym (or_false (has_empty_array t))) ∙ sym (any_has-join ts (more t no_trees)))

not_empty : (kind : CompoundKind) (u : Pending) (ps : List (Option Tree)) (p : Option Tree) → false ≡ is_empty_array kind u (ps ++ (p ∷ []))
not_empty kinds.List (pending.Marker marker.Array) [] p = refl
not_empty kinds.List (pending.Marker marker.Array) (q ∷ ps) p = refl
not_empty kind u ps p = refl

-- Markers leave the parts of a map unchanged.
map_found : (start : Finder) (kind : CompoundKind) (compound : Searched) (ps : List (Option Tree)) → kind ≡ kinds.Map → Holds start kind compound ps → FindsInParts (all_trees ps) compound.found
map_found start kind compound ps is h = subst (λ k. FindsInParts (all_trees (meant_parts k start.pending ps)) compound.found) is h.found

-- A part is accepted.
pub taken : (start : Finder) (n : Bool) (kind : CompoundKind) (compound new : Searched) (ps : List (Option Tree)) (p : Option Tree) → Holds start kind compound ps →
    Finds {E = NoTree} (meant compound.next.pending p) (Ok n) → new.fits ≡ compound.fits → new.next ≡ fresh → new.is_empty_array ≡ false → new.found ≡ (compound.found || n) → new.before_last ≡ compound.found →
    Holds start kind new (ps ++ (p ∷ []))
taken start n kind compound new ps p h g a b c d e = record {
  fits = a ∙ h.fits;
  next = b ∙ for_next start kind ps p;
  empty = c ∙ not_empty kind start.pending ps p;
  found =
      subst (λ f. FindsInParts (all_trees (meant_parts kind start.pending (ps ++ (p ∷ [])))) f) (sym d)
      (subst (λ o. FindsInParts o (compound.found || n)) (sym (trees_more kind start compound.next ps [] p h.next))
      (one_more (all_trees (meant_parts kind start.pending ps)) (meant compound.next.pending p) compound.found n h.found g));
  before_last = λ is odd qs q f.
      subst (λ b. FindsInParts (all_trees qs) b) (sym e)
      (subst (λ xs. FindsInParts (all_trees xs) compound.found) (last_off ps qs p q f) (map_found start kind compound ps is h));
}

-- The last part of a map is removed.
pub undone : (start : Finder) (compound new : Searched) (ps : List (Option Tree)) (p : Option Tree) → Holds start kinds.Map compound (ps ++ (p ∷ [])) → paired ps ≡ true →
    new.fits ≡ compound.fits → new.next ≡ compound.next → new.is_empty_array ≡ compound.is_empty_array → new.found ≡ compound.before_last → Holds start kinds.Map new ps
undone start compound new ps p h even a b c d = record {
  fits = a ∙ h.fits;
  next = b ∙ h.next;
  empty = c ∙ h.empty;
  found = subst (λ f. FindsInParts (all_trees ps) f) (sym d) (h.before_last refl (paired-last ps p ∙ ap not even) ps p refl);
  before_last = λ is odd. absurd (never (sym even ∙ odd));
}

abbrev PairsFind : Option Pairs → Bool → Type 0
PairsFind None b = Unit {0}
PairsFind (Some ps) b = any_pair_has ps ≡ b

more_pairs : (k v : Tree) (o : Option Pairs) (b : Bool) → PairsFind o b → PairsFind (prepend_pair k v o) (has_empty_array k || (has_empty_array v || b))
more_pairs k v None b h = tt
more_pairs k v (Some ps) b h = ap (λ x. has_empty_array k || (has_empty_array v || x)) h

pairs_find : (ts : Trees) → PairsFind (in_pairs ts) (any_has ts)
pairs_find no_trees = refl
pairs_find (more k no_trees) = tt
pairs_find (more k (more v ts)) = more_pairs k v (in_pairs ts) (any_has ts) (pairs_find ts)

map_finds : (o : Option Pairs) (b : Bool) (w : Tree) → PairsFind o b → as_map o ≡ Some w → has_empty_array w ≡ b
map_finds None b w h e = cc
map_finds (Some ps) b w h e = let same : w ≡ map ps = cc in ap has_empty_array same ∙ h

only_finds : (ts : Trees) (w : Tree) → only ts ≡ Some w → has_empty_array w ≡ any_has ts
only_finds no_trees w e = cc
only_finds (more t no_trees) w e = let same : w ≡ t = cc in ap has_empty_array same ∙ sym (or_false (has_empty_array t))
only_finds (more t (more u ts)) w e = cc

variant_finds : (i : ℕ) (o : Option Tree) (w : Tree) (b : Bool) → as_variant i o ≡ Some w → ((t : Tree) → o ≡ Some t → has_empty_array t ≡ b) → has_empty_array w ≡ b
variant_finds i None w b e f = cc
variant_finds i (Some t) w b e f = let same : w ≡ variant i t = cc in ap has_empty_array same ∙ f t refl

-- A compound has an array without elements if a part has one.
kind_finds : (kind : CompoundKind) (ts : Trees) (w : Tree) → as_kind kind (Some ts) ≡ Some w → has_empty_array w ≡ any_has ts
kind_finds kinds.List ts w e = let same : w ≡ list ts = cc in ap has_empty_array same
kind_finds kinds.Map ts w e = map_finds (in_pairs ts) (any_has ts) w (pairs_find ts) e
kind_finds (kinds.Variant i) ts w e = let same : w ≡ variant i (list ts) = cc in ap has_empty_array same
kind_finds (kinds.NewtypeVariant i) ts w e = variant_finds i (only ts) w (any_has ts) e (only_finds ts)
kind_finds kinds.Single ts w e = only_finds ts w e

finds_some : (o : Option Tree) (b : Bool) → is_some o ≡ true → ((w : Tree) → o ≡ Some w → b ≡ has_empty_array w) → Finds {E = NoTree} o (Ok b)
finds_some None b is f = absurd (never (sym is))
finds_some (Some w) b is f = f w refl

ended_on : (kind : CompoundKind) (o : Option Trees) (b : Bool) → FindsInParts o b → ((ts : Trees) → o ≡ Some ts → is_some (as_kind kind (Some ts)) ≡ true) → Finds {E = NoTree} (as_kind kind o) (Ok (b || false))
ended_on kind None b h f = absurd h
ended_on kind (Some ts) b h f = finds_some (as_kind kind (Some ts)) (b || false) (f ts refl) (λ w e. or_false b ∙ (h ∙ sym (kind_finds kind ts w e)))

array_finds : (p : Option Tree) (o : Option Trees) (b : Bool) → FindsInParts (prepend p o) b → Finds {E = NoTree} (meant (pending.Marker marker.Array) (as_kind kinds.List (prepend p o))) (Ok (b || false))
array_finds None o b h = absurd h
array_finds (Some t) None b h = absurd h
array_finds (Some t) (Some ts) b h = or_false b ∙ h

transparent_finds : (o : Option Trees) (b : Bool) → FindsInParts o b → Finds {E = NoTree} (meant (pending.Marker marker.Transparent) (as_kind kinds.List o)) (Ok (b || false))
transparent_finds None b h = absurd h
transparent_finds (Some ts) b h = or_false b ∙ h

not_array : (kind : CompoundKind) (ps : List (Option Tree)) → false ≡ is_empty_array kind (pending.Marker marker.Other) ps
not_array kinds.List ps = refl
not_array kind ps = refl

closed : (kind : CompoundKind) (u : Pending) (ps : List (Option Tree)) (b : Bool) → fits kind u ≡ true → complete kind ps ≡ true → FindsInParts (all_trees (meant_parts kind u ps)) b →
    Finds {E = NoTree} (meant u (tree_of_parts kind ps)) (Ok (b || is_empty_array kind u ps))
unfolding tree_of_parts
closed kinds.Single u ps b f done h =
    subst (λ t. Finds {E = NoTree} t (Ok (b || false))) (single_meant u ps)
    (ended_on kinds.Single (all_trees (meant_parts kinds.Single u ps)) b h (λ ts e. makes_tree kinds.Single (meant_parts kinds.Single u ps) ts (complete_meant kinds.Single u ps ∙ done) e))
closed kinds.List (pending.Marker marker.Array) [] b f done h = or_true b
closed kinds.List (pending.Marker marker.Array) (p ∷ ps) b f done h = array_finds p (all_trees ps) b h
closed kinds.List (pending.Marker marker.Transparent) ps b f done h = transparent_finds (all_trees ps) b h
closed kind (pending.Marker marker.Other) ps b f done h =
    subst (λ e. Finds {E = NoTree} (meant (pending.Marker marker.Other) (as_kind kind (all_trees ps))) (Ok (b || e))) (not_array kind ps)
    (subst (λ t. Finds {E = NoTree} t (Ok (b || false))) (sym (unmarked (as_kind kind (all_trees ps))))
    (ended_on kind (all_trees ps) b h (λ ts e. makes_tree kind ps ts done e)))
closed kind u ps b f done h = absurd (never (sym f))

-- The compound ends.
pub ended : (start : Finder) (kind : CompoundKind) (compound : Searched) (ps : List (Option Tree)) → Holds start kind compound ps → complete kind ps ≡ true → compound.fits ≡ true →
    Finds {E = NoTree} (meant start.pending (tree_of_parts kind ps)) (Ok (compound.found || compound.is_empty_array))
ended start kind compound ps h done fit =
    subst (λ e. Finds {E = NoTree} (meant start.pending (tree_of_parts kind ps)) (Ok (compound.found || e))) (sym h.empty)
    (closed kind start.pending ps compound.found (sym h.fits ∙ fit) done h.found)

finds_none : (o : Option Tree) (e : NoTree) → o ≡ None → Finds o (Err e)
finds_none o e is = subst (λ x. Finds x (Err e)) (sym is) tt

-- A compound that is not valid ends.
pub not_ended : (start : Finder) (kind : CompoundKind) (compound : Searched) (ps : List (Option Tree)) (e : NoTree) → Holds start kind compound ps → compound.fits ≡ false → Finds (meant start.pending (tree_of_parts kind ps)) (Err e)
unfolding tree_of_parts
not_ended start kind compound ps e h fit = finds_none (meant start.pending (tree_of_parts kind ps)) e (no_compound start.pending kind (all_trees ps) (sym h.fits ∙ fit))

no_tree : (p : Option Tree) (e : NoTree) → Finds p (Err e) → p ≡ None
no_tree None e h = refl
no_tree (Some t) e h = absurd h

-- A part has no tree.
pub refused : (start : Finder) (kind : CompoundKind) (compound : Searched) (ps : List (Option Tree)) (p : Option Tree) (e : NoTree) → Holds start kind compound ps → Finds (meant compound.next.pending p) (Err e) →
    (rest : List (Option Tree)) → Finds (meant start.pending (tree_of_parts kind (ps ++ (p ∷ rest)))) (Err e)
refused start kind compound ps p e h g rest =
    finds_none (meant start.pending (tree_of_parts kind (ps ++ (p ∷ rest)))) e (none_of_parts start.pending kind (ps ++ (p ∷ rest))
    (trees_more kind start compound.next ps rest p h.next
    ∙ (ap (λ q. joined (all_trees (meant_parts kind start.pending ps)) (prepend q (all_trees rest))) (no_tree (meant compound.next.pending p) e g)
    ∙ joined_none (all_trees (meant_parts kind start.pending ps)))))
