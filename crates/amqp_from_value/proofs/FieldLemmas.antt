-- The images of fields, of which absent ones are omitted.
use Rattle.std.proofs.Common.{◌≡◌, ◌∙◌, ℕ, Bool, true, false, true≢false, List, [], ◌∷◌, Option, Some, map, refl, sym, ap, subst}
use Rattle.std.proofs.lemmas.Cmp.{nat_list_eq_equiv}
use Rattle.std.specs.Prelude.{if◌then◌else◌, bytes_eq}
use Rattle.std.specs.List.{AllByRecursion}
use Rattle.std.specs.Map.{keys_of}
use Rattle.amqp_ser.specs.Compounds.{parts_of, tree_of_parts}
use Rattle.amqp_ser.specs.Named.{string_key}
use Rattle.amqp_ser.specs.Tree as tree
use Rattle.amqp_ser.specs.Tree.{Tree, scalar, string, trees_of}
use Rattle.amqp_ser.specs.declared.kind.CompoundKind.TheVariants as kind
use Rattle.amqp_value.specs.TreeOf.{pairs_of}
use Rattle.amqp_de.specs.Maps.{pair_image, IsPair}
use Rattle.amqp_de.specs.Present.{distinct_names, has_name, short_list, short_map, present_fields, up_to_last}
use Rattle.amqp_de.proofs.LeftOut.{not_and, or_false}
use Rattle.amqp_from_value.proofs.KeyLemmas.{HaveDistinctImages}
use Rattle.amqp_from_value.proofs.MapLemmas.{map_has_image}
use Rattle.amqp_from_value.proofs.HasImageLemmas.{list_has_image}
use Rattle.amqp_from_value.specs.HasImage.{HasImage, HaveImages, EntriesHaveImages, FieldsHaveImages}

pub short_list_has_image : (ps : List (Option Tree)) (fs : List (Bool × Tree)) → HaveImages ps (trees_of (up_to_last fs)) → HasImage (tree_of_parts kind.List ps) (short_list fs)
unfolding short_list
short_list_has_image ps fs h = list_has_image ps (trees_of (up_to_last fs)) h

pub kept_has_image : (b : Bool) (p : Option Tree) (ps : List (Option Tree)) (t : Tree) (ts : List Tree) → HasImage p t → HaveImages ps (trees_of ts) →
    HaveImages (if b then p ∷ ps else []) (trees_of (if b then t ∷ ts else []))
kept_has_image true p ps t ts h k = (h, k)
kept_has_image false p ps t ts h k = tt

pub none_has_image : FieldsHaveImages [] [] []
unfolding FieldsHaveImages
none_has_image = tt

pub must_has_image : (n : List ℕ) (p : Option Tree) (ps : List (Option Tree)) (t : Tree) (ns : List (List ℕ)) (fs : List (Bool × Tree)) →
    HasImage p t → FieldsHaveImages ps ns fs → FieldsHaveImages (string_key n ∷ p ∷ ps) (n ∷ ns) ((true, t) ∷ fs)
unfolding FieldsHaveImages
must_has_image n p ps t ns fs h k = (refl, h, k)

pub may_by : (b : Bool) (n : List ℕ) (p : Option Tree) (ps : List (Option Tree)) (t : Tree) (es : List (Tree × Tree)) →
    HasImage p t → EntriesHaveImages ps es →
    EntriesHaveImages (if b then string_key n ∷ p ∷ ps else ps) (if b then (scalar (string n), t) ∷ es else es)
may_by true n p ps t es h k = (refl, h, k)
may_by false n p ps t es h k = k

pub may_has_image : (b : Bool) (n : List ℕ) (p : Option Tree) (ps : List (Option Tree)) (t : Tree) (ns : List (List ℕ)) (fs : List (Bool × Tree)) →
    HasImage p t → FieldsHaveImages ps ns fs → FieldsHaveImages (if b then string_key n ∷ p ∷ ps else ps) (n ∷ ns) ((b, t) ∷ fs)
unfolding FieldsHaveImages
may_has_image b n p ps t ns fs h k = may_by b n p ps t (present_fields ns fs) h k

-- A part and its image.
abbrev Beside : Type 0
Beside = Option Tree × Tree

abbrev part : Beside → Option Tree
part b = b.0

abbrev seen : Beside → Tree
seen b = b.1

abbrev BesideHasImage : Beside → Type 0
BesideHasImage b = HasImage b.0 b.1

abbrev beside : List (Option Tree) → List (Tree × Tree) → List (Beside × Beside)
beside (k ∷ v ∷ ps) (e ∷ es) = ((k, e.0), (v, e.1)) ∷ beside ps es
beside _ _ = []

-- Each key is a string, which is its own image.
abbrev pub Names : List (Tree × Tree) → Type 0
Names = AllByRecursion (λ e. (n : List ℕ) × (e.0 ≡ scalar (string n)))

the_parts : (ps : List (Option Tree)) (es : List (Tree × Tree)) → EntriesHaveImages ps es → parts_of part part (beside ps es) ≡ ps
the_parts [] [] h = refl
the_parts [] (e ∷ es) h = absurd h
the_parts (k ∷ []) [] h = absurd h
the_parts (k ∷ []) (e ∷ es) h = absurd h
the_parts (k ∷ v ∷ ps) [] h = absurd h
the_parts (k ∷ v ∷ ps) (e ∷ es) h = ap (λ qs. k ∷ v ∷ qs) (the_parts ps es h.2)

the_entries : (ps : List (Option Tree)) (es : List (Tree × Tree)) → EntriesHaveImages ps es →
    pairs_of (map (pair_image seen seen) (beside ps es)) ≡ pairs_of es
the_entries [] [] h = refl
the_entries [] (e ∷ es) h = absurd h
the_entries (k ∷ []) [] h = absurd h
the_entries (k ∷ []) (e ∷ es) h = absurd h
the_entries (k ∷ v ∷ ps) [] h = absurd h
the_entries (k ∷ v ∷ ps) (e ∷ es) h = ap (λ qs. tree.pair e.0 e.1 qs) (the_entries ps es h.2)

key_has_image : (k : Option Tree) (t : Tree) (n : List ℕ) → k ≡ Some t → t ≡ scalar (string n) → HasImage k t
key_has_image k t n e f = rw (e, f) (refl, refl)

each_has_image : (ps : List (Option Tree)) (es : List (Tree × Tree)) → EntriesHaveImages ps es → Names es →
    AllByRecursion (IsPair BesideHasImage BesideHasImage) (beside ps es)
each_has_image [] [] h n = tt
each_has_image [] (e ∷ es) h n = absurd h
each_has_image (k ∷ []) [] h n = absurd h
each_has_image (k ∷ []) (e ∷ es) h n = absurd h
each_has_image (k ∷ v ∷ ps) [] h n = absurd h
each_has_image (k ∷ v ∷ ps) (e ∷ es) h n = ((key_has_image k e.0 n.0.0 h.0 n.0.1, h.1), each_has_image ps es h.2 n.1)

others_far : (t : Tree) (ps : List (Option Tree)) (es : List (Tree × Tree)) → EntriesHaveImages ps es →
    AllByRecursion (λ l. ¬ (t ≡ l)) (keys_of es) → AllByRecursion (λ l. ¬ (t ≡ seen l)) (keys_of (beside ps es))
others_far t [] [] h d = tt
others_far t [] (e ∷ es) h d = absurd h
others_far t (k ∷ []) [] h d = absurd h
others_far t (k ∷ []) (e ∷ es) h d = absurd h
others_far t (k ∷ v ∷ ps) [] h d = absurd h
others_far t (k ∷ v ∷ ps) (e ∷ es) h d = (d.0, others_far t ps es h.2 d.1)

keys_differ : (ps : List (Option Tree)) (es : List (Tree × Tree)) → EntriesHaveImages ps es → HaveDistinctImages (λ t. t) (keys_of es) →
    HaveDistinctImages seen (keys_of (beside ps es))
keys_differ [] [] h d = tt
keys_differ [] (e ∷ es) h d = absurd h
keys_differ (k ∷ []) [] h d = absurd h
keys_differ (k ∷ []) (e ∷ es) h d = absurd h
keys_differ (k ∷ v ∷ ps) [] h d = absurd h
keys_differ (k ∷ v ∷ ps) (e ∷ es) h d = (others_far e.0 ps es h.2 d.0, keys_differ ps es h.2 d.1)

entries_has_image : (ps : List (Option Tree)) (es : List (Tree × Tree)) → EntriesHaveImages ps es → Names es → HaveDistinctImages (λ t. t) (keys_of es) →
    HasImage (tree_of_parts kind.Map ps) (tree.map (pairs_of es))
entries_has_image ps es h n d =
    let s = map_has_image part seen part seen BesideHasImage BesideHasImage (λ (b : Beside) k. k) (λ (b : Beside) k. k) (beside ps es) (each_has_image ps es h n) (keys_differ ps es h d) in
    subst (λ (qs : List (Option Tree)). HasImage (tree_of_parts kind.Map qs) (tree.map (pairs_of es))) (the_parts ps es h)
    (subst (λ (es' : tree.Pairs). HasImage (tree_of_parts kind.Map (parts_of part part (beside ps es))) (tree.map es')) (the_entries ps es h) s)

-- The names of present fields.
named_by : (b : Bool) (n : List ℕ) (t : Tree) (es : List (Tree × Tree)) → Names es → Names (if b then (scalar (string n), t) ∷ es else es)
named_by true n t es h = ((n, refl), h)
named_by false n t es h = h

keys_are_names : (ns : List (List ℕ)) (fs : List (Bool × Tree)) → Names (present_fields ns fs)
keys_are_names [] fs = tt
keys_are_names (n ∷ ns) [] = tt
keys_are_names (n ∷ ns) (f ∷ fs) = named_by f.0 n f.1 (present_fields ns fs) (keys_are_names ns fs)

other : (m n : List ℕ) → bytes_eq m n ≡ false → ¬ (scalar (string n) ≡ scalar (string m))
other m n d e = let same : n ≡ m = cc in
    let itself : bytes_eq m n ≡ true = subst (λ (k : List ℕ). bytes_eq m k ≡ true) (sym same) (nat_list_eq_equiv.refl m) in
    true≢false (sym itself ∙ d)

far_by : (n m : List ℕ) (b : Bool) (t : Tree) (es : List (Tree × Tree)) → bytes_eq m n ≡ false →
    AllByRecursion (λ l. ¬ (scalar (string n) ≡ l)) (keys_of es) →
    AllByRecursion (λ l. ¬ (scalar (string n) ≡ l)) (keys_of (if b then (scalar (string m), t) ∷ es else es))
far_by n m true t es d h = (other m n d, h)
far_by n m false t es d h = h

far : (n : List ℕ) (ns : List (List ℕ)) (fs : List (Bool × Tree)) → has_name n ns ≡ false →
    AllByRecursion (λ l. ¬ (scalar (string n) ≡ l)) (keys_of (present_fields ns fs))
far n [] fs e = tt
far n (m ∷ ns) [] e = tt
far n (m ∷ ns) (f ∷ fs) e = let both = or_false (bytes_eq m n) (has_name n ns) e in
    far_by n m f.0 f.1 (present_fields ns fs) both.0 (far n ns fs both.1)

apart_by : (n : List ℕ) (b : Bool) (t : Tree) (es : List (Tree × Tree)) → AllByRecursion (λ l. ¬ (scalar (string n) ≡ l)) (keys_of es) →
    HaveDistinctImages (λ t. t) (keys_of es) → HaveDistinctImages (λ t. t) (keys_of (if b then (scalar (string n), t) ∷ es else es))
apart_by n true t es f d = (f, d)
apart_by n false t es f d = d

apart : (ns : List (List ℕ)) (fs : List (Bool × Tree)) → distinct_names ns ≡ true → HaveDistinctImages (λ t. t) (keys_of (present_fields ns fs))
apart [] fs e = tt
apart (n ∷ ns) [] e = tt
apart (n ∷ ns) (f ∷ fs) e = let both = not_and (has_name n ns) (distinct_names ns) e in
    apart_by n f.0 f.1 (present_fields ns fs) (far n ns fs both.0) (apart ns fs both.1)

pub short_map_has_image : (ps : List (Option Tree)) (ns : List (List ℕ)) (fs : List (Bool × Tree)) → distinct_names ns ≡ true → FieldsHaveImages ps ns fs →
    HasImage (tree_of_parts kind.Map ps) (short_map ns fs)
unfolding short_map FieldsHaveImages
short_map_has_image ps ns fs d h = entries_has_image ps (present_fields ns fs) h (keys_are_names ns fs) (apart ns fs d)
