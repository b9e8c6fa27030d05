-- The intended trees of compounds.
use Rattle.std.proofs.Common.{◌≡◌, ℕ, List, [], ◌∷◌, Option, Some, None, true, false, is_some, refl, ap, sym, ◌∙◌, subst}
use Rattle.amqp_ser.specs.Composites.{descriptor_of}
use Rattle.amqp_ser.specs.Compounds.{all_trees, prepend, as_kind, as_map, as_variant, in_pairs, only, tree_of_parts, complete}
use Rattle.amqp_ser.specs.Meant.{as_descriptor, fits, meant, meant_none, meant_parts}
use Rattle.amqp_ser.specs.Tree.{Descriptor, Scalar, Tree, Trees, Pairs, code, list, name, scalar, symbol, ulong, variant, no_trees, more}
use Rattle.amqp_ser.specs.declared.kind.CompoundKind.{CompoundKind}
use Rattle.amqp_ser.specs.declared.kind.CompoundKind.TheVariants as kinds
use Rattle.amqp_ser.specs.declared.marker.Marker.TheVariants as marker
use Rattle.amqp_ser.specs.declared.pending.Pending.{Pending}
use Rattle.amqp_ser.specs.declared.pending.Pending.TheVariants as pending
use Rattle.amqp_ser.proofs.Joins.{joined, kind_none}
use Rattle.amqp_ser.proofs.Pairing.{paired-even, pairing}

pub never : true ≡ false → ⊥
never q = cc

pub joined_none : (o : Option Trees) → joined o None ≡ None
joined_none None = refl
joined_none (Some ts) = refl

scalar_there : (s : Scalar) (t : Tree) → as_descriptor (Some (scalar s)) ≡ Some t → (d : Descriptor) × (descriptor_of (Some (scalar s)) ≡ Some d)
scalar_there (ulong n) t e = (code n, refl)
scalar_there (symbol bs) t e = (name bs, refl)
scalar_there s t e = cc

-- A tree that is valid as a descriptor is one.
pub descriptor_there : (p : Option Tree) (t : Tree) → as_descriptor p ≡ Some t → (d : Descriptor) × (descriptor_of p ≡ Some d)
descriptor_there None t e = cc
descriptor_there (Some (scalar s)) t e = scalar_there s t e
descriptor_there (Some u) t e = cc

first_single : (u : Pending) (t : Tree) (m : Option Tree) (o : Option Trees) → m ≡ meant u (Some t) → as_kind kinds.Single (prepend m o) ≡ meant u (as_kind kinds.Single (prepend (Some t) o))
first_single u t None None e = sym (meant_none u)
first_single u t (Some w) None e = sym (meant_none u)
first_single u t None (Some no_trees) e = e
first_single u t (Some w) (Some no_trees) e = e
first_single u t None (Some (more x xs)) e = sym (meant_none u)
first_single u t (Some w) (Some (more x xs)) e = sym (meant_none u)

-- The intended tree of a single compound is that of its one part.
pub single_meant : (u : Pending) (ps : List (Option Tree)) → tree_of_parts kinds.Single (meant_parts kinds.Single u ps) ≡ meant u (tree_of_parts kinds.Single ps)
unfolding tree_of_parts
single_meant u [] = sym (meant_none u)
single_meant u (None ∷ ps) = ap (λ m. as_kind kinds.Single (prepend m (all_trees ps))) (meant_none u) ∙ sym (meant_none u)
single_meant u (Some t ∷ ps) = first_single u t (meant u (Some t)) (all_trees ps) refl

no_list : (u : Pending) (ts : Trees) → fits kinds.List u ≡ false → meant u (Some (list ts)) ≡ None
no_list (pending.Marker marker.Other) ts f = absurd (never f)
no_list (pending.Marker marker.Array) ts f = absurd (never f)
no_list (pending.Marker marker.Transparent) ts f = absurd (never f)
no_list u ts f = refl

no_map : (u : Pending) (o : Option Pairs) → fits kinds.Map u ≡ false → meant u (as_map o) ≡ None
no_map u None f = meant_none u
no_map (pending.Marker marker.Other) (Some ps) f = absurd (never f)
no_map u (Some ps) f = refl

no_fields : (u : Pending) (i : ℕ) (t : Tree) → fits (kinds.Variant i) u ≡ false → meant u (Some (variant i t)) ≡ None
no_fields (pending.Marker marker.Other) i t f = absurd (never f)
no_fields u i t f = refl

no_variant : (u : Pending) (i : ℕ) (o : Option Tree) → fits (kinds.NewtypeVariant i) u ≡ false → meant u (as_variant i o) ≡ None
no_variant u i None f = meant_none u
no_variant (pending.Marker marker.Other) i (Some t) f = absurd (never f)
no_variant u i (Some t) f = refl

-- A compound that is not valid has no tree.
pub no_compound : (u : Pending) (kind : CompoundKind) (o : Option Trees) → fits kind u ≡ false → meant u (as_kind kind o) ≡ None
no_compound u kinds.Single o f = absurd (never f)
no_compound u kind None f = ap (meant u) (kind_none kind) ∙ meant_none u
no_compound u kinds.List (Some ts) f = no_list u ts f
no_compound u kinds.Map (Some ts) f = no_map u (in_pairs ts) f
no_compound u (kinds.Variant i) (Some ts) f = no_fields u i (list ts) f
no_compound u (kinds.NewtypeVariant i) (Some ts) f = no_variant u i (only ts) f

only_tree : (p : Option Tree) (ts : Trees) → all_trees (p ∷ []) ≡ Some ts → is_some (only ts) ≡ true
only_tree None ts e = cc
only_tree (Some t) ts e = let same : more t no_trees ≡ ts = cc in subst (λ x. is_some (only x) ≡ true) same refl

only_variant : (i : ℕ) (o : Option Tree) → is_some o ≡ true → is_some (as_variant i o) ≡ true
only_variant i None h = h
only_variant i (Some t) h = refl

-- The trees of the parts of a complete compound make a tree.
pub makes_tree : (kind : CompoundKind) (ps : List (Option Tree)) (ts : Trees) → complete kind ps ≡ true → all_trees ps ≡ Some ts → is_some (as_kind kind (Some ts)) ≡ true
makes_tree kinds.List ps ts done e = refl
makes_tree kinds.Map ps ts done e = ap (λ o. is_some (as_map o)) ((pairing ts (sym (paired-even ps ts e) ∙ done)).are)
makes_tree (kinds.Variant i) ps ts done e = refl
makes_tree (kinds.NewtypeVariant i) [] ts done e = absurd (never (sym done))
makes_tree (kinds.NewtypeVariant i) (p ∷ []) ts done e = only_variant i (only ts) (only_tree p ts e)
makes_tree (kinds.NewtypeVariant i) (p ∷ (q ∷ ps)) ts done e = absurd (never (sym done))
makes_tree kinds.Single [] ts done e = absurd (never (sym done))
makes_tree kinds.Single (p ∷ []) ts done e = only_tree p ts e
makes_tree kinds.Single (p ∷ (q ∷ ps)) ts done e = absurd (never (sym done))

pub complete_meant : (kind : CompoundKind) (u : Pending) (ps : List (Option Tree)) → complete kind (meant_parts kind u ps) ≡ complete kind ps
complete_meant kinds.Single u [] = refl
complete_meant kinds.Single u (p ∷ []) = refl
complete_meant kinds.Single u (p ∷ (q ∷ ps)) = refl
complete_meant kind u ps = refl
