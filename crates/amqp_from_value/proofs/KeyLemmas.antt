-- Equal images have equal contents, part by part. Keys that remain distinct have distinct images.
use Rattle.std.proofs.Common.{◌≡◌, Bool, false, true≢false, List, [], ◌∷◌, Option, Some, None, map, refl, sym, ◌∙◌}
use Rattle.std.proofs.lemmas.Cmp.{tied_itself}
use Rattle.std.specs.Cmp.{IsEquivalence, IsTotalOrder}
use Rattle.std.specs.List.{AllByRecursion, AllZip}
use Rattle.std.specs.Map.{keys_of}
use Rattle.std.specs.declared.cmp.Ordering.{Ordering}
use Rattle.std.specs.declared.cmp.Ordering.TheVariants.{Equal, Greater}
use Rattle.amqp_ser.specs.Tree.{Tree, trees_of}
use Rattle.amqp_value.specs.TreeOf.{pairs_of}
use Rattle.amqp_de.specs.Maps.{pair_image, IsPair, SamePair, EachBefore, ForAllSame, AreDistinct, AreAscending}
use Rattle.amqp_de.specs.Reads.{image_option, RestorableOption, SameOption}

-- No two keys have the same image.
abbrev pub HaveDistinctImages : {K : Type 0} → (K → Tree) → List K → Type 0
HaveDistinctImages g = EachBefore (λ k l. ¬ (g k ≡ g l))

module _ {T : Type 0} (g : T → Tree) (P : T → Type 0) (S : T → T → Type 0) (told : (x y : T) → P x → P y → g x ≡ g y → S x y) where
  pub options_told : (o p : Option T) → RestorableOption g P o → RestorableOption g P p → image_option g o ≡ image_option g p → SameOption S o p
  options_told None None a b e = tt
  options_told None (Some y) a b e = absurd (b.0 (sym e))
  options_told (Some x) None a b e = absurd (a.0 e)
  options_told (Some x) (Some y) a b e = told x y a.1 b.1 e

  pub items_told : (xs ys : List T) → AllByRecursion P xs → AllByRecursion P ys → trees_of (map g xs) ≡ trees_of (map g ys) → AllZip S xs ys
  items_told [] [] a b e = tt
  items_told [] (y ∷ ys) a b e = absurd cc
  items_told (x ∷ xs) [] a b e = absurd cc
  items_told (x ∷ xs) (y ∷ ys) a b e = (told x y a.0 b.0 (cc), items_told xs ys a.1 b.1 (cc))

  -- Keys are distinct by a relation that no key has to itself.
  module _ (R : T → T → Type 0) (never : (x : T) → ¬ (R x x)) where
    far : (k l : T) → P k → P l → ForAllSame S R k l → ¬ (g k ≡ g l)
    far k l a b apart e = never k (apart k k (told k k a a refl) (told k l a b e))

    module _ {V : Type 0} (Q : V → Type 0) where
      all_far : (k : T) (es : List (T × V)) → P k → AllByRecursion (IsPair P Q) es → AllByRecursion (ForAllSame S R k) (keys_of es) →
          AllByRecursion (λ l. ¬ (g k ≡ g l)) (keys_of es)
      all_far k [] a all apart = tt
      all_far k (e ∷ es) a all apart = (far k e.0 a all.0.0 apart.0, all_far k es a all.1 apart.1)

      pub images_differ : (es : List (T × V)) → AllByRecursion (IsPair P Q) es → EachBefore (ForAllSame S R) (keys_of es) → HaveDistinctImages g (keys_of es)
      images_differ [] all apart = tt
      images_differ (e ∷ es) all apart = (all_far e.0 es all.0.0 all.1 apart.0, images_differ es all.1 apart.1)

module _ {K V : Type 0} (f : K → Tree) (P : K → Type 0) (S : K → K → Type 0) (key : (x y : K) → P x → P y → f x ≡ f y → S x y)
    (g : V → Tree) (Q : V → Type 0) (U : V → V → Type 0) (value : (x y : V) → Q x → Q y → g x ≡ g y → U x y) where
  pub entries_told : (ds es : List (K × V)) → AllByRecursion (IsPair P Q) ds → AllByRecursion (IsPair P Q) es →
      pairs_of (map (pair_image f g) ds) ≡ pairs_of (map (pair_image f g) es) → AllZip (SamePair S U) ds es
  entries_told [] [] a b e = tt
  entries_told [] (y ∷ es) a b e = absurd cc
  entries_told (x ∷ ds) [] a b e = absurd cc
  entries_told (x ∷ ds) (y ∷ es) a b e = ((key x.0 y.0 a.0.0 b.0.0 (cc), value x.1 y.1 a.0.1 b.0.1 (cc)), entries_told ds es a.1 b.1 (cc))

not_above_itself : {K : Type 0} (cmp : K → K → Ordering) → IsTotalOrder cmp → (x : K) → ¬ (cmp x x ≡ Greater)
not_above_itself cmp laws x e = let same : Equal ≡ Greater = sym (tied_itself laws x) ∙ e in cc

module _ {K V : Type 0} (g : K → Tree) (P : K → Type 0) (S : K → K → Type 0) (Q : V → Type 0) (told : (x y : K) → P x → P y → g x ≡ g y → S x y) where
  pub distinct_differ : (eq : K → K → Bool) → IsEquivalence eq → (es : List (K × V)) → AllByRecursion (IsPair P Q) es →
      AreDistinct S eq (keys_of es) → HaveDistinctImages g (keys_of es)
  distinct_differ eq laws = images_differ g P S told (λ x y. eq y x ≡ false) (λ x e. true≢false (sym (laws.refl x) ∙ e)) Q

  pub ascending_differ : (cmp : K → K → Ordering) → IsTotalOrder cmp → (es : List (K × V)) → AllByRecursion (IsPair P Q) es →
      AreAscending S cmp (keys_of es) → HaveDistinctImages g (keys_of es)
  ascending_differ cmp laws = images_differ g P S told (λ x y. cmp y x ≡ Greater) (λ x. not_above_itself cmp laws x) Q
