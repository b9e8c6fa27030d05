-- The images of compounds, from the images of their parts.
use Rattle.std.proofs.Common.{◌≡◌, ℕ, ◌∙◌, false, List, [], ◌∷◌, Option, Some, None, map, refl, ap}
use Rattle.std.specs.Prelude.{◌||◌}
use Rattle.std.specs.List.{AllByRecursion}
use Rattle.amqp_ser.specs.Carried.{optional}
use Rattle.amqp_ser.specs.Composites.{as_described}
use Rattle.amqp_ser.specs.Compounds.{all_trees, as_kind, prepend, tree_of_parts}
use Rattle.amqp_ser.specs.Marked.{with_marker}
use Rattle.amqp_ser.specs.Tree.{Descriptor, Tree, Trees, list, array, described, no_trees, more, trees_of}
use Rattle.amqp_ser.specs.declared.kind.CompoundKind.TheVariants as kind
use Rattle.amqp_ser.specs.declared.marker.Marker.TheVariants as marker
use Rattle.amqp_to_value.specs.HasLazy.{has_lazy_each}
use Rattle.amqp_value.specs.Image.{images, variant_map}
use Rattle.amqp_de.specs.Reads.{image_option, RestorableOption}
use Rattle.amqp_from_value.specs.HasImage.{HasImage, HaveImages}

-- There are trees, they contain nothing lazy, and these are their images.
abbrev TreesHaveImages : Option Trees → Trees → Type 0
TreesHaveImages None us = ⊥
TreesHaveImages (Some ts) us = (us ≡ images ts) × (has_lazy_each ts ≡ false)

prepend_has_image : (p : Option Tree) (u : Tree) (q : Option Trees) (us : Trees) → HasImage p u → TreesHaveImages q us → TreesHaveImages (prepend p q) (more u us)
prepend_has_image None u q us h k = absurd h
prepend_has_image (Some t) u None us h k = absurd k
prepend_has_image (Some t) u (Some ts) us h k = ((λ i. more (h.0 i) (k.0 i)), ap (λ b. b || has_lazy_each ts) h.1 ∙ k.1)

all_has_image : (ps : List (Option Tree)) (us : Trees) → HaveImages ps us → TreesHaveImages (all_trees ps) us
all_has_image [] no_trees h = (refl, refl)
all_has_image [] (more u us) h = absurd h
all_has_image (p ∷ ps) no_trees h = absurd h
all_has_image (p ∷ ps) (more u us) h = prepend_has_image p u (all_trees ps) us h.0 (all_has_image ps us h.1)

as_list : (q : Option Trees) (us : Trees) → TreesHaveImages q us → HasImage (as_kind kind.List q) (list us)
as_list None us h = absurd h
as_list (Some ts) us h = (ap list h.0, h.1)

pub list_has_image : (ps : List (Option Tree)) (us : Trees) → HaveImages ps us → HasImage (tree_of_parts kind.List ps) (list us)
unfolding tree_of_parts
list_has_image ps us h = as_list (all_trees ps) us (all_has_image ps us h)

as_array : (q : Option Trees) (us : Trees) → TreesHaveImages q us → HasImage (with_marker marker.Array (as_kind kind.List q)) (array us)
as_array None us h = absurd h
as_array (Some ts) us h = (ap array h.0, h.1)

pub array_has_image : (ps : List (Option Tree)) (us : Trees) → HaveImages ps us → HasImage (with_marker marker.Array (tree_of_parts kind.List ps)) (array us)
unfolding tree_of_parts
array_has_image ps us h = as_array (all_trees ps) us (all_has_image ps us h)

as_transparent : (q : Option Trees) (us : Trees) → TreesHaveImages q us → HasImage (with_marker marker.Transparent (as_kind kind.List q)) (list us)
as_transparent None us h = absurd h
as_transparent (Some ts) us h = (ap list h.0, h.1)

pub transparent_has_image : (ps : List (Option Tree)) (us : Trees) → HaveImages ps us → HasImage (with_marker marker.Transparent (tree_of_parts kind.List ps)) (list us)
unfolding tree_of_parts
transparent_has_image ps us h = as_transparent (all_trees ps) us (all_has_image ps us h)

as_fields : (i : ℕ) (q : Option Trees) (us : Trees) → TreesHaveImages q us → HasImage (as_kind (kind.Variant i) q) (variant_map i (list us))
as_fields i None us h = absurd h
as_fields i (Some ts) us h = (ap (λ vs. variant_map i (list vs)) h.0, h.1)

pub fields_has_image : (i : ℕ) (ps : List (Option Tree)) (us : Trees) → HaveImages ps us → HasImage (tree_of_parts (kind.Variant i) ps) (variant_map i (list us))
unfolding tree_of_parts
fields_has_image i ps us h = as_fields i (all_trees ps) us (all_has_image ps us h)

pub value_has_image : (i : ℕ) (p : Option Tree) (u : Tree) → HasImage p u → HasImage (tree_of_parts (kind.NewtypeVariant i) (p ∷ [])) (variant_map i u)
unfolding tree_of_parts
value_has_image i None u h = absurd h
value_has_image i (Some t) u h = (ap (λ v. variant_map i v) h.0, h.1)

pub described_has_image : (d : Descriptor) (p : Option Tree) (u : Tree) → HasImage p u → HasImage (as_described (Some d) p) (described d u)
described_has_image d None u h = absurd h
described_has_image d (Some t) u h = (ap (λ v. described d v) h.0, h.1)

pub optional_has_image : {T : Type 0} (f : T → Option Tree) (g : T → Tree) (P : T → Type 0) → ((x : T) → P x → HasImage (f x) (g x)) →
    (o : Option T) → RestorableOption g P o → HasImage (optional f o) (image_option g o)
optional_has_image f g P h None r = (refl, refl)
optional_has_image f g P h (Some x) r = h x r.1

pub items_has_image : {T : Type 0} (f : T → Option Tree) (g : T → Tree) (P : T → Type 0) → ((x : T) → P x → HasImage (f x) (g x)) →
    (xs : List T) → AllByRecursion P xs → HaveImages (map f xs) (trees_of (map g xs))
items_has_image f g P h [] r = tt
items_has_image f g P h (x ∷ xs) r = (h x r.0, items_has_image f g P h xs r.1)
