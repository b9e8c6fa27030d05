-- Elements that are read in order.
use Rattle.std.proofs.Common.{◌≡◌, ◌⊎◌, inl, inr, List, [], ◌∷◌, ◌++◌, map, Result, Ok, Err, IfOk, IfErr, refl, sym, ap, subst}
use Rattle.std.specs.List.{AllZip, AllByRecursion}
use Rattle.amqp_de.specs.Reads.{Always}
use Rattle.amqp_ser.specs.Tree.{Tree, Trees, Pairs, Scalar, scalar, trees_of, no_trees, more, no_pairs, pair}
use Rattle.amqp_value.specs.TreeOf.{pairs_of}
use Rattle.amqp_de.specs.Results.{ReadsAndRestores}
use Rattle.amqp_de.specs.Values.{elements_in, entries_in}

module _ {A T : Type 0} (R : A → T → Type 0) where
  pub all_zip_none : (done : List A) (t : A) (rest : List A) → ((x : T) → ¬ R t x) → (xs : List T) → ¬ AllZip R (done ++ t ∷ rest) xs
  all_zip_none [] t rest n [] h = h
  all_zip_none [] t rest n (x ∷ xs) h = n x h.0
  all_zip_none (u ∷ us) t rest n [] h = h
  all_zip_none (u ∷ us) t rest n (x ∷ xs) h = all_zip_none us t rest n xs h.1

module _ {A T : Type 0} (image : T → A) (P : T → Type 0) where
  pub image_at : (done : List A) (t : A) (after : List A) (xs : List T) → done ++ t ∷ after ≡ map image xs → AllByRecursion P xs
      → (x : T) × P x × (t ≡ image x)
  image_at [] t after [] p all = absurd (cc)
  image_at [] t after (x ∷ xs) p all = let head : t ≡ image x = cc in (x, all.0, head)
  image_at (u ∷ us) t after [] p all = absurd (cc)
  image_at (u ∷ us) t after (x ∷ xs) p all = let tail : us ++ t ∷ after ≡ map image xs = cc in image_at us t after xs tail all.1

pub trees_of_list : (us : Trees) → us ≡ trees_of (elements_in us)
trees_of_list no_trees = refl
trees_of_list (more t us) = ap (λ vs. more t vs) (trees_of_list us)

pub pairs_of_entries : (ps : Pairs) → ps ≡ pairs_of (entries_in ps)
pairs_of_entries no_pairs = refl
pairs_of_entries (pair k v ps) = ap (λ qs. pair k v qs) (pairs_of_entries ps)

module _ {T : Type 0} (reads : Tree → T → Type 0) (image : T → Tree) (P : T → Type 0) (S : T → T → Type 0) where
  pub zip_reads : (ts : List Tree) (xs : List T) → AllZip (ReadsAndRestores reads image P S) ts xs → AllZip reads ts xs
  zip_reads [] [] h = tt
  zip_reads [] (x ∷ xs) h = absurd h
  zip_reads (t ∷ ts) [] h = absurd h
  zip_reads (t ∷ ts) (x ∷ xs) h = (h.0.0, zip_reads ts xs h.1)

  pub zip_same : (ts : List Tree) (ys xs : List T) → AllZip (ReadsAndRestores reads image P S) ts ys → AllByRecursion P xs → ts ≡ map image xs → AllZip S ys xs
  zip_same [] [] [] h all p = tt
  zip_same [] [] (x ∷ xs) h all p = absurd (cc)
  zip_same [] (y ∷ ys) xs h all p = absurd h
  zip_same (t ∷ ts) [] xs h all p = absurd h
  zip_same (t ∷ ts) (y ∷ ys) [] h all p = absurd (cc)
  zip_same (t ∷ ts) (y ∷ ys) (x ∷ xs) h all p =
      let head : t ≡ image x = cc in
      let tail : ts ≡ map image xs = cc in
      (h.0.1 x all.0 head, zip_same ts ys xs h.1 all.1 tail)

-- Scalars of one kind.
module _ {A : Type 0} (kind : A → Scalar) where
  abbrev pub Leaf : Tree → A → Type 0
  Leaf t x = t ≡ scalar (kind x)

  abbrev pub ReadingLeaf : Tree → A → Type 0
  ReadingLeaf = ReadsAndRestores Leaf (λ x. scalar (kind x)) Always (λ x y. x ≡ y)

  module _ (told : (a b : A) → kind a ≡ kind b → a ≡ b) where
    leaf_read : (t : Tree) (x : A) → Leaf t x → ReadingLeaf t x
    leaf_read t x e = (e, λ y some f. let same : kind x ≡ kind y = cc in told x y same)

    zip_leaves : (ts : List Tree) (xs : List A) → AllZip Leaf ts xs → AllZip ReadingLeaf ts xs
    zip_leaves [] [] h = tt
    zip_leaves [] (x ∷ xs) h = absurd h
    zip_leaves (t ∷ ts) [] h = absurd h
    zip_leaves (t ∷ ts) (x ∷ xs) h = (leaf_read t x h.0, zip_leaves ts xs h.1)

    pub leaves_read : {R F : Type 0} (items : R → List A) (holds : List Tree → Type 0) (r : Result R F) → IfOk r (λ v. (ts : List Tree) × holds ts × AllZip Leaf ts (items v))
        → IfOk r (λ v. (ts : List Tree) × holds ts × AllZip ReadingLeaf ts (items v))
    leaves_read items holds (Ok v) (ts, h, zip) = (ts, h, zip_leaves ts (items v) zip)
    leaves_read items holds (Err e) h = tt

  all_leaves : (xs : List A) → AllZip Leaf (map (λ x. scalar (kind x)) xs) xs
  all_leaves [] = tt
  all_leaves (x ∷ xs) = (refl, all_leaves xs)

  pub no_leaves : {R F : Type 0} (whole : Type 0) (memory : F → Type 0) (ts : List Tree) (r : Result R F)
      → IfErr r (λ e. whole → memory e ⊎ ((xs : List A) → ¬ AllZip Leaf ts xs))
      → (xs : List A) → AllByRecursion Always xs → ts ≡ map (λ x. scalar (kind x)) xs → IfErr r (λ e. whole → memory e)
  no_leaves whole memory ts (Ok v) h xs some is = tt
  no_leaves whole memory ts (Err e) h xs some is = λ w. elim (h w) [
    | inl m ↦ m
    | inr none ↦ let all : AllZip Leaf ts xs = subst (λ us. AllZip Leaf us xs) (sym is) (all_leaves xs) in absurd (none xs all)
  ]
