-- Fields that are read from the elements or the entries of any source.
use Rattle.std.proofs.Common.{◌≡◌, ◌⊎◌, inl, inr, ℕ, Bool, true, false, true≢false, List, [], ◌∷◌, Some, None, Result, Ok, Err, IfOk, IfErr, sym, ap, ◌∙◌, subst}
use Rattle.std.specs.Prelude.{not, ◌&&◌}
use Rattle.amqp_ser.specs.Tree.{Tree}
use Rattle.amqp_de.specs.Fields.{FieldSource, by_position, by_name, value_at, without, ReadsIfPresent, ReadsField, NoMoreFields}
use Rattle.amqp_de.specs.Parts.{◌▸◌, ReadsFields, images_of_fields, RestorableFields, SameFields}
use Rattle.amqp_de.specs.Present.{any_there, present_fields, has_name, distinct_names, EndsEarly}
use Rattle.amqp_de.specs.Reads.{Always}
use Rattle.amqp_de.specs.Results.{ReadsAndRestores}
use Rattle.amqp_de.specs.Steps.{ReadsElements, ReadsEntries, TakesField, TakesNamed, Follows}
use Rattle.amqp_de.specs.declared.fields.FieldValues.{FieldValues}
use Rattle.amqp_de.proofs.LeftOut.{or_false, not_and, others_distinct, present_value, not_present, rest_there}

ends : (fs : List (Bool × Tree)) → any_there fs ≡ false → EndsEarly fs []
ends [] e = e
ends (g ∷ fs) e = e

module _ {V W : Type 0} (Absent : V → Type 0) (n : List ℕ) (R : Tree → V → Type 0) (Q : W → FieldSource → Type 0) where
  -- Fields that are not read from the others are not read with a field before them.
  pub field_refused : (old new : List Tree) → Follows old new → ((w : W) → ¬ Q w (by_position new)) → (y : FieldValues V W) → ¬ ReadsFields Absent n R Q y (by_position old)
  unfolding ReadsField
  field_refused old new follows none y h =
      elim follows [
        | inl (e, f) ↦
            let k : ReadsField Absent n R y.value (Q y.rest) (by_position []) = subst (λ z. ReadsField Absent n R y.value (Q y.rest) (by_position z)) e h in
            none y.rest (subst (λ z. Q y.rest (by_position z)) (sym f) k.1)
        | inr (t, e) ↦
            let k : ReadsField Absent n R y.value (Q y.rest) (by_position (t ∷ new)) = subst (λ z. ReadsField Absent n R y.value (Q y.rest) (by_position z)) e h in
            none y.rest k.1
      ]

  pub field_first : (t : Tree) (old new : List Tree) → old ≡ t ∷ new → ((x : V) → ¬ R t x) → (y : FieldValues V W) → ¬ ReadsFields Absent n R Q y (by_position old)
  unfolding ReadsField
  field_first t old new e none y h =
      let k : ReadsField Absent n R y.value (Q y.rest) (by_position (t ∷ new)) = subst (λ z. ReadsField Absent n R y.value (Q y.rest) (by_position z)) e h in
      none y.value k.0

  pub field_missing : (old : List Tree) → old ≡ [] → ((x : V) → ¬ Absent x) → (y : FieldValues V W) → ¬ ReadsFields Absent n R Q y (by_position old)
  unfolding ReadsField
  field_missing old e none y h =
      let k : ReadsField Absent n R y.value (Q y.rest) (by_position []) = subst (λ z. ReadsField Absent n R y.value (Q y.rest) (by_position z)) e h in
      none y.value k.0

  pub named_refused : (old new : List (Tree × Tree)) → new ≡ without n old → ((w : W) → ¬ Q w (by_name new)) → (y : FieldValues V W) → ¬ ReadsFields Absent n R Q y (by_name old)
  unfolding ReadsField
  named_refused old new e none y h = none y.rest (subst (λ es. Q y.rest (by_name es)) (sym e) h.1)

  pub named_first : (old : List (Tree × Tree)) (t : Tree) → value_at n old ≡ Some t → ((x : V) → ¬ R t x) → (y : FieldValues V W) → ¬ ReadsFields Absent n R Q y (by_name old)
  unfolding ReadsField
  named_first old t e none y h = let k : ReadsIfPresent Absent R (Some t) y.value = subst (λ o. ReadsIfPresent Absent R o y.value) e h.0 in none y.value k

  pub named_missing : (old : List (Tree × Tree)) → value_at n old ≡ None → ((x : V) → ¬ Absent x) → (y : FieldValues V W) → ¬ ReadsFields Absent n R Q y (by_name old)
  unfolding ReadsField
  named_missing old e none y h = let k : ReadsIfPresent Absent R None y.value = subst (λ o. ReadsIfPresent Absent R o y.value) e h.0 in none y.value k

  module _ (present : V → Bool) (image : V → Tree) (P : V → Type 0) (S : V → V → Type 0)
      (images : W → List (Bool × Tree)) (PW : W → Type 0) (SW : W → W → Type 0) (law : (x y : V) → present y ≡ false → Absent x → S x y) where
    pub field_taken : (old new : List Tree → Type 0) (x : V) (w : W) → ((ts : List Tree) → new ts → TakesField (ReadsAndRestores R image P S) Absent old ts x) → ReadsElements Q images PW SW new w
        → ReadsElements (ReadsFields Absent n R Q) (images_of_fields present image images) (RestorableFields P PW) (SameFields S SW) old (x ▸ w)
    unfolding ReadsField
    field_taken old new x w h (ts, held, reads, kept) =
        elim (h ts held) [
          | inl (none, there, absent) ↦ (
            [],
            there,
            (absent, subst (λ z. Q w (by_position z)) none reads),
            λ y p k.
                let b = or_false (present y.value) (any_there (images y.rest)) k in
                let others : (v : W) → PW v → EndsEarly (images v) [] → SW w v = subst (λ z. (v : W) → PW v → EndsEarly (images v) z → SW w v) none kept in
                (law x y.value b.0 absent, others y.rest p.1 (ends (images y.rest) b.1)),
          )
          | inr (t, there, r) ↦ (t ∷ ts, there, (r.0, reads), λ y p k. (r.1 y.value p.0 k.0, kept y.rest p.1 k.1))
        ]

    pub named_taken : (ns : List (List ℕ)) (needs : Bool → Type 0) (only : List (List ℕ) → List (Tree × Tree) → Type 0) → ((a b : Bool) → needs (a && b) → needs a × needs b) → needs true
        → (old new : List (Tree × Tree) → Type 0) (x : V) (w : W)
        → ((ps : List (Tree × Tree)) → new ps → (qs : List (Tree × Tree)) × old qs × TakesNamed (ReadsAndRestores R image P S) Absent only needs n qs ps x)
        → ReadsEntries Q ns images PW SW needs only new w
        → ReadsEntries (ReadsFields Absent n R Q) (n ∷ ns) (images_of_fields present image images) (RestorableFields P PW) (SameFields S SW) needs only old (x ▸ w)
    unfolding ReadsField
    named_taken ns needs only split enough old new x w h (ps, held, among, reads, kept) =
        let (qs, there, step) = h ps held in
        elim step [
          | inl (t, at, after, r, more) ↦ (
            qs,
            there,
            more ns among,
            λ d. (subst (λ o. ReadsIfPresent Absent R o x) (sym at) r.0, subst (λ es. Q w (by_name es)) (sym after) (reads (split (not (has_name n ns)) (distinct_names ns) d).1)),
            λ y p d e. (
              r.1 y.value p.0 (present_value n (present y.value) (image y.value) ns (images y.rest) qs t d e at),
              kept y.rest p.1 (others_distinct n ns d) (rest_there n (present y.value) (image y.value) ns (images y.rest) qs ps d e (sym after)),
            ),
          )
          | inr (same, absent, more) ↦ (
            ps,
            subst old same there,
            (more ns among).0,
            λ d.
                let (a, b) = split (not (has_name n ns)) (distinct_names ns) d in
                let (none, all) = (more ns among).1 a in
                (subst (λ o. ReadsIfPresent Absent R o x) (sym none) absent, subst (λ es. Q w (by_name es)) (sym all) (reads b)),
            λ y p d e.
                let other : not (has_name n ns) ≡ true = ap not (not_and (has_name n ns) (distinct_names ns) d).0 in
                let (none, all) = (more ns among).1 (subst needs (sym other) enough) in (
                  law x y.value (not_present n (present y.value) (image y.value) ns (images y.rest) ps e none) absent,
                  kept y.rest p.1 (others_distinct n ns d) (rest_there n (present y.value) (image y.value) ns (images y.rest) ps ps d e (sym all)),
                ),
          )
        ]

-- The images of the fields after one, of those that may be left out at the end.
pub early_rest : (f : Bool × Tree) (fs : List (Bool × Tree)) (old new : List Tree) → Follows old new → EndsEarly (f ∷ fs) old → EndsEarly fs new
early_rest f fs old new follows k =
    elim follows [
      | inl (e, g) ↦
          let none : EndsEarly (f ∷ fs) [] = subst (EndsEarly (f ∷ fs)) e k in
          subst (EndsEarly fs) (sym g) (ends fs (or_false f.0 (any_there fs) none).1)
      | inr (t, e) ↦ let there : EndsEarly (f ∷ fs) (t ∷ new) = subst (EndsEarly (f ∷ fs)) e k in there.1
    ]

pub early_first : (f : Bool × Tree) (fs : List (Bool × Tree)) (t : Tree) (old new : List Tree) → old ≡ t ∷ new → EndsEarly (f ∷ fs) old → t ≡ f.1
early_first f fs t old new e k = let there : EndsEarly (f ∷ fs) (t ∷ new) = subst (EndsEarly (f ∷ fs)) e k in there.0

-- A field that must be there is not left out.
pub early_missing : {M : Type 0} (f : Bool × Tree) (fs : List (Bool × Tree)) (old : List Tree) → old ≡ [] → f.0 ≡ true → EndsEarly (f ∷ fs) old → M
early_missing f fs old e must k =
    let none : EndsEarly (f ∷ fs) [] = subst (EndsEarly (f ∷ fs)) e k in
    absurd (true≢false (sym must ∙ (or_false f.0 (any_there fs) none).0))

-- After the last field.
pub unit_taken : {F : Type 0} (holds : List Tree → Type 0) (r : Result (Unit {0}) F) → IfOk r (λ _. (ts : List Tree) × holds ts)
    → IfOk r (ReadsElements {V = Unit {0}} (λ _. NoMoreFields) (λ _. []) Always (λ _ _. Unit {0}) holds)
unfolding NoMoreFields
unit_taken holds (Ok v) (ts, h) = (ts, h, tt, λ x p k. tt)
unit_taken holds (Err e) h = tt

pub unit_named : {F : Type 0} (needs : Bool → Type 0) (only : List (List ℕ) → List (Tree × Tree) → Type 0) (holds : List (Tree × Tree) → Type 0) (r : Result (Unit {0}) F)
    → IfOk r (λ _. (ps : List (Tree × Tree)) × holds ps × only [] ps)
    → IfOk r (ReadsEntries {V = Unit {0}} (λ _. NoMoreFields) [] (λ _. []) Always (λ _ _. Unit {0}) needs only holds)
unfolding NoMoreFields
unit_named needs only holds (Ok v) (ps, h, among) = (ps, h, among, λ d. tt, λ x p d e. tt)
unit_named needs only holds (Err e) h = tt

pub unit_err : {F : Type 0} (whole : Type 0) (memory : F → Type 0) (none : Type 0) (r : Result (Unit {0}) F) → IfErr r (λ e. whole → memory e) → IfErr r (λ e. whole → memory e ⊎ none)
unit_err whole memory none (Ok v) h = tt
unit_err whole memory none (Err e) h = λ w. inl (h w)
