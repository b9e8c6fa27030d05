-- Keys remain distinct or ascending if they are replaced by keys with the same contents.
use Rattle.std.proofs.Common.{◌≡◌, ℕ, nat_eq, Bool, true, false, List, [], ◌∷◌, ap, ◌∙◌}
use Rattle.std.proofs.lemmas.Cmp.{nat_list_eq_equiv, nat_list_cmp_total, tied_itself}
use Rattle.std.specs.Cmp.Lexicographic.{pointwise, slice_cmp}
use Rattle.std.specs.Cmp.{IsEquivalence, IsTotalOrder}
use Rattle.std.specs.List.{AllByRecursion, IsDistinct}
use Rattle.std.specs.List.Sorted.{IsStrictlySortedBy}
use Rattle.std.specs.Ordering.{nat_cmp, ordering_reverse}
use Rattle.std.specs.declared.cmp.Ordering.{Ordering}
use Rattle.std.specs.declared.cmp.Ordering.TheVariants.{Less, Equal, Greater}
use Rattle.amqp_data.specs.Pairs as pairs
use Rattle.amqp_de.specs.Maps.{ForAllSame, AreDistinct, AreAscending}

module _ {K : Type 0} (S : K → K → Type 0) where
  -- If `R` implies that `Q` relates all keys with the same contents, and `R` relates `k` to each of
  -- `ks`, then `Q` relates all keys with the contents of `k` to all keys with those of `ks`.
  all_so : (R Q : K → K → Type 0) → ((k l : K) → R k l → ForAllSame S Q k l) → (k : K) (ks : List K) → AllByRecursion (R k) ks → AllByRecursion (ForAllSame S Q k) ks
  all_so R Q so k [] all = tt
  all_so R Q so k (l ∷ ks) all = (so k l all.0, all_so R Q so k ks all.1)

  module _ (eq : K → K → Bool) (laws : IsEquivalence eq) (equal : (x y : K) → S x y → eq x y ≡ true) where
    apart : (k l : K) → eq k l ≡ false → ForAllSame S (λ x y. eq y x ≡ false) k l
    apart k l p x y s t = laws.congr y l x (equal y l t) ∙ laws.symm l x ∙ laws.congr x k l (equal x k s) ∙ p

    all_apart : (k : K) (ks : List K) → AllByRecursion (λ l. eq k l ≡ false) ks → AllByRecursion (ForAllSame S (λ x y. eq y x ≡ false) k) ks
    all_apart = all_so (λ k l. eq k l ≡ false) (λ x y. eq y x ≡ false) apart

    pub distinct_hashed : (ks : List K) → IsDistinct eq ks → AreDistinct S eq ks
    unfolding IsDistinct
    distinct_hashed [] all = tt
    distinct_hashed (k ∷ ks) all = (all_apart k ks all.0, distinct_hashed ks all.1)

    all_lacked : (k : K) (ks : List K) → pairs.LacksKey eq k ks → AllByRecursion (λ l. eq k l ≡ false) ks
    all_lacked k [] lacks = tt
    all_lacked k (l ∷ ks) lacks = (lacks.0, all_lacked k ks lacks.1)

    pub distinct_ordered : (ks : List K) → pairs.AreDistinct eq ks → AreDistinct S eq ks
    distinct_ordered [] all = tt
    distinct_ordered (k ∷ ks) all = (all_apart k ks (all_lacked k ks all.0), distinct_ordered ks all.1)

  module _ (cmp : K → K → Ordering) (laws : IsTotalOrder cmp) (equal : (x y : K) → S x y → cmp x y ≡ Equal) where
    above : (k l : K) → cmp k l ≡ Less → ForAllSame S (λ x y. cmp y x ≡ Greater) k l
    above k l p x y s t = laws.congr y l x (equal y l t) ∙ laws.antisymm l x ∙ ap ordering_reverse (laws.congr x k l (equal x k s) ∙ p)

    all_above : (k : K) (ks : List K) → AllByRecursion (λ l. cmp k l ≡ Less) ks → AllByRecursion (ForAllSame S (λ x y. cmp y x ≡ Greater) k) ks
    all_above = all_so (λ k l. cmp k l ≡ Less) (λ x y. cmp y x ≡ Greater) above

    pub ascending : (ks : List K) → IsStrictlySortedBy cmp ks → AreAscending S cmp ks
    unfolding IsStrictlySortedBy
    ascending [] all = tt
    ascending (k ∷ ks) all = (all_above k ks all.0, ascending ks all.1)

pub texts_equal : (xs ys : List ℕ) → xs ≡ ys → (pointwise nat_eq xs ys ≡ true) × (slice_cmp nat_cmp xs ys ≡ Equal)
texts_equal xs ys same = rw same (nat_list_eq_equiv.refl ys, tied_itself nat_list_cmp_total ys)
