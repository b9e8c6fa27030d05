-- The trees of fields of which absent ones are left out.
use Rattle.std.proofs.Common.{◌≡◌, ℕ, Bool, true, false, true≢false, List, [], ◌∷◌, Some, None, refl, sym, ap, subst, ◌∙◌}
use Rattle.std.proofs.lemmas.Cmp.{nat_list_eq_equiv}
use Rattle.std.specs.Prelude.{◌||◌, ◌&&◌, not, if◌then◌else◌, bytes_eq}
use Rattle.amqp_ser.specs.Tree.{Tree, scalar, string, list, map, trees_of}
use Rattle.amqp_value.specs.TreeOf.{pairs_of}
use Rattle.amqp_de.proofs.Lists.{same_trees, same_pairs}
use Rattle.amqp_de.specs.Fields.{value_at, without}
use Rattle.amqp_de.specs.Present.{any_there, all_images, up_to_last, present_fields, has_name, distinct_names, EndsEarly}

-- The images of all fields are a list that `EndsEarly` permits.
all_there : (fs : List (Bool × Tree)) → EndsEarly fs (all_images fs)
all_there [] = refl
all_there (f ∷ fs) = (refl, all_there fs)

cut_by : (b : Bool) (f : Bool × Tree) (fs : List (Bool × Tree)) → (f.0 || any_there fs) ≡ b → EndsEarly fs (up_to_last fs) →
    EndsEarly (f ∷ fs) (if b then f.1 ∷ up_to_last fs else [])
cut_by true f fs e k = (refl, k)
cut_by false f fs e k = e

some_there : (fs : List (Bool × Tree)) → EndsEarly fs (up_to_last fs)
some_there [] = refl
some_there (f ∷ fs) = cut_by (f.0 || any_there fs) f fs refl (some_there fs)

-- `EndsEarly` permits the elements of the list of all fields, and those of the list without the
-- absent fields at its end.
pub full : (fs : List (Bool × Tree)) (ts : List Tree) (t : Tree) → list (trees_of ts) ≡ t → t ≡ list (trees_of (all_images fs)) → EndsEarly fs ts
full fs ts t e f = let same : trees_of ts ≡ trees_of (all_images fs) = cc in
    subst (λ (us : List Tree). EndsEarly fs us) (sym (same_trees ts (all_images fs) same)) (all_there fs)

pub cut : (fs : List (Bool × Tree)) (ts : List Tree) (t : Tree) → list (trees_of ts) ≡ t → t ≡ list (trees_of (up_to_last fs)) → EndsEarly fs ts
cut fs ts t e f = let same : trees_of ts ≡ trees_of (up_to_last fs) = cc in
    subst (λ (us : List Tree). EndsEarly fs us) (sym (same_trees ts (up_to_last fs) same)) (some_there fs)

-- The entries of the map of the present fields are those of `present_fields`.
pub entries : (ns : List (List ℕ)) (fs : List (Bool × Tree)) (es : List (Tree × Tree)) (t : Tree) → map (pairs_of es) ≡ t →
    t ≡ map (pairs_of (present_fields ns fs)) → es ≡ present_fields ns fs
entries ns fs es t e f = let same : pairs_of es ≡ pairs_of (present_fields ns fs) = cc in same_pairs es (present_fields ns fs) same

-- A name equals itself. The value at the name of the first entry is that of the entry, and the
-- entries without this name are the rest.
itself : (n : List ℕ) → bytes_eq n n ≡ true
itself n = nat_list_eq_equiv.refl n

pub first_value : (n : List ℕ) (t : Tree) (es : List (Tree × Tree)) → value_at n ((scalar (string n), t) ∷ es) ≡ Some t
first_value n t es = ap (λ (b : Bool). if b then Some t else value_at n es) (itself n)

pub first_without : (n : List ℕ) (t : Tree) (es : List (Tree × Tree)) → without n ((scalar (string n), t) ∷ es) ≡ es
first_without n t es = ap (λ (b : Bool). if b then es else (scalar (string n), t) ∷ without n es) (itself n)

pub or_false : (a b : Bool) → (a || b) ≡ false → (a ≡ false) × (b ≡ false)
or_false false b e = (refl, e)
or_false true b e = absurd (true≢false e)

pub not_and : (a b : Bool) → (not a && b) ≡ true → (a ≡ false) × (b ≡ true)
not_and false b e = (refl, e)
not_and true b e = absurd (true≢false (sym e))

pub others_distinct : (n : List ℕ) (ns : List (List ℕ)) → distinct_names (n ∷ ns) ≡ true → distinct_names ns ≡ true
others_distinct n ns e = (not_and (has_name n ns) (distinct_names ns) e).1

module _ (n : List ℕ) where
  -- If no field has a name, no entry has it.
  no_value_by : (m : List ℕ) (b : Bool) (t : Tree) (es : List (Tree × Tree)) → bytes_eq m n ≡ false → value_at n es ≡ None →
      value_at n (if b then (scalar (string m), t) ∷ es else es) ≡ None
  no_value_by m true t es d e = ap (λ (b : Bool). if b then Some t else value_at n es) d ∙ e
  no_value_by m false t es d e = e

  pub no_value : (ns : List (List ℕ)) (fs : List (Bool × Tree)) → has_name n ns ≡ false → value_at n (present_fields ns fs) ≡ None
  no_value [] fs e = refl
  no_value (m ∷ ns) [] e = refl
  no_value (m ∷ ns) (f ∷ fs) e = let both = or_false (bytes_eq m n) (has_name n ns) e in
      no_value_by m f.0 f.1 (present_fields ns fs) both.0 (no_value ns fs both.1)

  all_left_by : (m : List ℕ) (b : Bool) (t : Tree) (es : List (Tree × Tree)) → bytes_eq m n ≡ false → without n es ≡ es →
      without n (if b then (scalar (string m), t) ∷ es else es) ≡ (if b then (scalar (string m), t) ∷ es else es)
  all_left_by m true t es d e =
      ap (λ (b : Bool). if b then es else (scalar (string m), t) ∷ without n es) d ∙ ap (λ (r : List (Tree × Tree)). (scalar (string m), t) ∷ r) e
  all_left_by m false t es d e = e

  pub all_left : (ns : List (List ℕ)) (fs : List (Bool × Tree)) → has_name n ns ≡ false → without n (present_fields ns fs) ≡ present_fields ns fs
  all_left [] fs e = refl
  all_left (m ∷ ns) [] e = refl
  all_left (m ∷ ns) (f ∷ fs) e = let both = or_false (bytes_eq m n) (has_name n ns) e in
      all_left_by m f.0 f.1 (present_fields ns fs) both.0 (all_left ns fs both.1)

  value_by : (b : Bool) (u : Tree) (ns : List (List ℕ)) (fs : List (Bool × Tree)) (es : List (Tree × Tree)) (t : Tree) → has_name n ns ≡ false →
      es ≡ present_fields (n ∷ ns) ((b, u) ∷ fs) → value_at n es ≡ Some t → t ≡ u
  value_by false u ns fs es t d e v = let same : None ≡ Some t = sym (no_value ns fs d) ∙ ap (value_at n) (sym e) ∙ v in absurd cc
  value_by true u ns fs es t d e v = let same : Some t ≡ Some u = sym v ∙ ap (value_at n) e ∙ first_value n u (present_fields ns fs) in cc

  rest_by : (b : Bool) (t : Tree) (ns : List (List ℕ)) (fs : List (Bool × Tree)) → has_name n ns ≡ false →
      without n (if b then (scalar (string n), t) ∷ present_fields ns fs else present_fields ns fs) ≡ present_fields ns fs
  rest_by true t ns fs d = first_without n t (present_fields ns fs)
  rest_by false t ns fs d = all_left ns fs d

-- If the name of a field is present, its value is the image of the field.
pub present_value : (n : List ℕ) (b : Bool) (u : Tree) (ns : List (List ℕ)) (fs : List (Bool × Tree)) (es : List (Tree × Tree)) (t : Tree) →
    distinct_names (n ∷ ns) ≡ true → es ≡ present_fields (n ∷ ns) ((b, u) ∷ fs) → value_at n es ≡ Some t → t ≡ u
present_value n b u ns fs es t d e v = value_by n b u ns fs es t (not_and (has_name n ns) (distinct_names ns) d).0 e v

-- If the name of a field is not present, the field is not.
pub not_present : (n : List ℕ) (b : Bool) (u : Tree) (ns : List (List ℕ)) (fs : List (Bool × Tree)) (es : List (Tree × Tree)) →
    es ≡ present_fields (n ∷ ns) ((b, u) ∷ fs) → value_at n es ≡ None → b ≡ false
not_present n false u ns fs es e v = refl
not_present n true u ns fs es e v = let same : Some u ≡ None = sym (first_value n u (present_fields ns fs)) ∙ ap (value_at n) (sym e) ∙ v in absurd cc

-- The entries without the first field are the entries of the fields after it.
pub rest_there : (n : List ℕ) (b : Bool) (t : Tree) (ns : List (List ℕ)) (fs : List (Bool × Tree)) (es rest : List (Tree × Tree)) →
    distinct_names (n ∷ ns) ≡ true → es ≡ (if b then (scalar (string n), t) ∷ present_fields ns fs else present_fields ns fs) →
    rest ≡ without n es → rest ≡ present_fields ns fs
rest_there n b t ns fs es rest d e r = r ∙ ap (without n) e ∙ rest_by n b t ns fs (not_and (has_name n ns) (distinct_names ns) d).0
