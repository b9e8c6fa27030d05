-- The images of compounds of fields, from the images of the fields.
use Rattle.std.proofs.Common.{◌≡◌, ℕ, Bool, true, List, [], ◌∷◌, Option, refl, subst}
use Rattle.std.specs.Prelude.{◌||◌, if◌then◌else◌}
use Rattle.amqp_ser.specs.Named as ser
use Rattle.amqp_ser.specs.Named.{named_parts, string_key}
use Rattle.amqp_ser.specs.Tree.{Tree, scalar, string, list, trees_of}
use Rattle.amqp_ser.specs.Words.{list_of, short_list_of, short_map_of}
use Rattle.amqp_de.specs.Present as de
use Rattle.amqp_de.specs.Present.{all_images, distinct_names, present_fields, short_list, short_map}
use Rattle.amqp_from_value.proofs.FieldLemmas.{short_list_has_image, short_map_has_image, kept_has_image, may_by}
use Rattle.amqp_from_value.proofs.HasImageLemmas.{list_has_image}
use Rattle.amqp_from_value.specs.HasImage.{HasImage, HaveImages, EntriesHaveImages, FieldsHaveImages}
use Rattle.amqp_from_value.specs.FieldTrees.{FieldTreesHaveImages, all_field_trees, with_names}

any_same : (ps : List (Bool × Option Tree)) (fs : List (Bool × Tree)) → FieldTreesHaveImages ps fs → ser.any_there ps ≡ de.any_there fs
unfolding FieldTreesHaveImages
any_same [] [] h = refl
any_same [] (f ∷ fs) h = absurd h
any_same (p ∷ ps) [] h = absurd h
any_same (p ∷ ps) (f ∷ fs) h = let rest : ser.any_there ps ≡ de.any_there fs = any_same ps fs h.2 in λ i. h.0 i || rest i

kept : (b c : Bool) → b ≡ c → (p : Option Tree) (t : Tree) (ps : List (Option Tree)) (ts : List Tree) → HasImage p t → HaveImages ps (trees_of ts) →
    HaveImages (if b then p ∷ ps else []) (trees_of (if c then t ∷ ts else []))
kept b c e p t ps ts h k = subst (λ (d : Bool). HaveImages (if b then p ∷ ps else []) (trees_of (if d then t ∷ ts else []))) e (kept_has_image b p ps t ts h k)

up : (ps : List (Bool × Option Tree)) (fs : List (Bool × Tree)) → FieldTreesHaveImages ps fs → HaveImages (ser.up_to_last ps) (trees_of (de.up_to_last fs))
unfolding FieldTreesHaveImages
up [] [] h = tt
up [] (f ∷ fs) h = absurd h
up (p ∷ ps) [] h = absurd h
up (p ∷ ps) (f ∷ fs) h = let rest : ser.any_there ps ≡ de.any_there fs = any_same ps fs h.2 in
    kept (p.0 || ser.any_there ps) (f.0 || de.any_there fs) (λ i. h.0 i || rest i) p.1 f.1 (ser.up_to_last ps) (de.up_to_last fs) h.1 (up ps fs h.2)

pub short_fields : (ps : List (Bool × Option Tree)) (fs : List (Bool × Tree)) → FieldTreesHaveImages ps fs → HasImage (short_list_of ps) (short_list fs)
short_fields ps fs h = short_list_has_image (ser.up_to_last ps) fs (up ps fs h)

all : (ps : List (Bool × Option Tree)) (fs : List (Bool × Tree)) → FieldTreesHaveImages ps fs → HaveImages (all_field_trees ps) (trees_of (all_images fs))
unfolding FieldTreesHaveImages
all [] [] h = tt
all [] (f ∷ fs) h = absurd h
all (p ∷ ps) [] h = absurd h
all (p ∷ ps) (f ∷ fs) h = (h.1, all ps fs h.2)

pub all_fields : (ps : List (Bool × Option Tree)) (fs : List (Bool × Tree)) → FieldTreesHaveImages ps fs → HasImage (list_of (all_field_trees ps)) (list (trees_of (all_images fs)))
all_fields ps fs h = list_has_image (all_field_trees ps) (trees_of (all_images fs)) (all ps fs h)

entries : (ns : List (List ℕ)) (ps : List (Bool × Option Tree)) (fs : List (Bool × Tree)) → FieldTreesHaveImages ps fs →
    EntriesHaveImages (named_parts string_key (with_names ns ps)) (present_fields ns fs)
unfolding FieldTreesHaveImages
entries [] ps fs h = tt
entries (n ∷ ns) [] [] h = tt
entries (n ∷ ns) [] (f ∷ fs) h = absurd h
entries (n ∷ ns) (p ∷ ps) [] h = absurd h
entries (n ∷ ns) (p ∷ ps) (f ∷ fs) h = let others : List (Option Tree) = named_parts string_key (with_names ns ps) in
    let es : List (Tree × Tree) = present_fields ns fs in
    subst (λ (d : Bool). EntriesHaveImages (if p.0 then string_key n ∷ p.1 ∷ others else others) (if d then (scalar (string n), f.1) ∷ es else es)) h.0
    (may_by p.0 n p.1 others f.1 es h.1 (entries ns ps fs h.2))

both : (ns : List (List ℕ)) (ps : List (Bool × Option Tree)) (fs : List (Bool × Tree)) → FieldTreesHaveImages ps fs →
    FieldsHaveImages (named_parts string_key (with_names ns ps)) ns fs
unfolding FieldsHaveImages
both ns ps fs h = entries ns ps fs h

pub named_fields : (ns : List (List ℕ)) (ps : List (Bool × Option Tree)) (fs : List (Bool × Tree)) → distinct_names ns ≡ true → FieldTreesHaveImages ps fs →
    HasImage (short_map_of (with_names ns ps)) (short_map ns fs)
named_fields ns ps fs d h = short_map_has_image (named_parts string_key (with_names ns ps)) ns fs d (both ns ps fs h)
