-- Pairs that are inserted into a map in order.
use Rattle.std.proofs.Common.{◌≡◌, Bool, false, List, [], ◌∷◌, ◌++◌, refl, sym, ap, ◌∙◌, fold}
use Rattle.std.proofs.lemmas.List.{append_assoc, append-nil}
use Rattle.std.specs.BTreeMap.{insert_entry}
use Rattle.std.specs.List.{AllZip, AllByRecursion}
use Rattle.std.specs.Map.{keys_of}
use Rattle.std.specs.declared.cmp.Ordering.{Ordering}
use Rattle.std.specs.declared.cmp.Ordering.TheVariants.{Greater}
use Rattle.amqp_data.specs.Pairs.{insert_pair}
use Rattle.amqp_value.specs.Converts.{inserted_in_order, inserted_sorted}
use Rattle.amqp_de.specs.Maps.{SamePair, EachBefore, ForAllSame, AreDistinct, AreAscending}

all_more : {X : Type 0} (P : X → Type 0) (xs : List X) (x : X) → AllByRecursion P xs → P x → AllByRecursion P (xs ++ x ∷ [])
all_more P [] x all p = (p, tt)
all_more P (y ∷ xs) x all p = (all.0, all_more P xs x all.1 p)

-- If a step appends each new element, then folding it over elements that are all new results in the
-- list of them.
module _ {X : Type 0} (R : X → X → Type 0) (step : List X → X → List X) (new : (es : List X) (x : X) → AllByRecursion (λ e. R e x) es → step es x ≡ es ++ x ∷ []) where
  after_more : (done : List X) (x : X) (xs : List X) → AllByRecursion (λ y. AllByRecursion (λ e. R e y) done) xs → AllByRecursion (R x) xs
      → AllByRecursion (λ y. AllByRecursion (λ e. R e y) (done ++ x ∷ [])) xs
  after_more done x [] after all = tt
  after_more done x (y ∷ xs) after all = (all_more (λ e. R e y) done x after.0 all.0, after_more done x xs after.1 all.1)

  new_onto : (done xs : List X) → AllByRecursion (λ y. AllByRecursion (λ e. R e y) done) xs → EachBefore R xs → fold step done xs ≡ done ++ xs
  new_onto done [] after each = sym (append-nil done)
  new_onto done (x ∷ xs) after each =
      ap (λ es. fold step es xs) (new done x after.0)
      ∙ new_onto (done ++ x ∷ []) xs (after_more done x xs after.1 each.0) each.1
      ∙ append_assoc done (x ∷ []) xs

  after_none : (xs : List X) → AllByRecursion (λ y. AllByRecursion (λ e. R e y) []) xs
  after_none [] = tt
  after_none (x ∷ xs) = (tt, after_none xs)

  pub all_new : (xs : List X) → EachBefore R xs → fold step [] xs ≡ xs
  all_new xs each = new_onto [] xs (after_none xs) each

module _ {K V : Type 0} where
  -- If `R` relates all keys with the contents of each key of `xs` to all with those of every later
  -- one, it relates each key of `ys` to every later one, where the pairs of `ys` and `xs` have the
  -- same contents.
  module _ (S : K → K → Type 0) (U : V → V → Type 0) (R : K → K → Type 0) where
    so_to_all : (k l : K) (v w : V) (ys xs : List (K × V)) → S k l → AllZip (SamePair S U) ys xs → AllByRecursion (ForAllSame S R l) (keys_of xs)
        → AllByRecursion (λ (e : K × V). R k e.0) ys
    so_to_all k l v w [] [] s z all = tt
    so_to_all k l v w [] (x ∷ xs) s z all = absurd z
    so_to_all k l v w (y ∷ ys) [] s z all = absurd z
    so_to_all k l v w (y ∷ ys) (x ∷ xs) s z all = (all.0 k y.0 s z.0.0, so_to_all k l v w ys xs s z.1 all.1)

    pub each_before : (ys xs : List (K × V)) → AllZip (SamePair S U) ys xs → EachBefore (ForAllSame S R) (keys_of xs) → EachBefore (λ (p q : K × V). R p.0 q.0) ys
    each_before [] [] z each = tt
    each_before [] (x ∷ xs) z each = absurd z
    each_before (y ∷ ys) [] z each = absurd z
    each_before (y ∷ ys) (x ∷ xs) z each = (so_to_all y.0 x.0 y.1 x.1 ys xs z.0.0 z.1 each.0, each_before ys xs z.1 each.1)

  module _ (eq : K → K → Bool) where
    insert_new : (es : List (K × V)) (p : K × V) → AllByRecursion (λ e. eq p.0 e.0 ≡ false) es → insert_pair eq es p.0 p.1 ≡ es ++ p ∷ []
    insert_new [] p all = refl
    insert_new (e ∷ es) p all = rw all.0 (ap (λ fs. e ∷ fs) (insert_new es p all.1))

    pub distinct_inserted : (ps : List (K × V)) → EachBefore (λ p q. eq q.0 p.0 ≡ false) ps → inserted_in_order eq ps ≡ ps
    distinct_inserted = all_new (λ p q. eq q.0 p.0 ≡ false) (λ es p. insert_pair eq es p.0 p.1) insert_new

  module _ (cmp : K → K → Ordering) where
    insert_greater : (es : List (K × V)) (p : K × V) → AllByRecursion (λ e. cmp p.0 e.0 ≡ Greater) es → insert_entry cmp es p.0 p.1 ≡ es ++ p ∷ []
    insert_greater [] p all = refl
    insert_greater (e ∷ es) p all = rw all.0 (ap (λ fs. e ∷ fs) (insert_greater es p all.1))

    pub ascending_inserted : (ps : List (K × V)) → EachBefore (λ p q. cmp q.0 p.0 ≡ Greater) ps → inserted_sorted cmp ps ≡ ps
    ascending_inserted = all_new (λ p q. cmp q.0 p.0 ≡ Greater) (λ es p. insert_entry cmp es p.0 p.1) insert_greater

module _ {K V : Type 0} (S : K → K → Type 0) (U : V → V → Type 0) where
  -- Pairs with the same contents as those of a map are inserted unchanged.
  pub restored_in_order : (eq : K → K → Bool) (es ys xs : List (K × V)) → AllZip (SamePair S U) ys xs → AreDistinct S eq (keys_of xs) → es ≡ inserted_in_order eq ys → AllZip (SamePair S U) es xs
  restored_in_order eq es ys xs zip apart is =
      let each = each_before S U (λ x y. eq y x ≡ false) ys xs zip apart in
      rw (is ∙ distinct_inserted eq ys each) zip

  pub restored_sorted : (cmp : K → K → Ordering) (es ys xs : List (K × V)) → AllZip (SamePair S U) ys xs → AreAscending S cmp (keys_of xs) → es ≡ inserted_sorted cmp ys → AllZip (SamePair S U) es xs
  restored_sorted cmp es ys xs zip apart is =
      let each = each_before S U (λ x y. cmp y x ≡ Greater) ys xs zip apart in
      rw (is ∙ ascending_inserted cmp ys each) zip
