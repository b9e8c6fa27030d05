-- Scalars of one kind that are read as values with the same content.
use Rattle.std.proofs.Common.{◌≡◌, ◌⊎◌, inl, inr, List, [], ◌∷◌, map, Result, Ok, Err, IfOk, IfErr, refl, sym, subst}
use Rattle.std.specs.List.{AllZip, AllByRecursion}
use Rattle.amqp_de.specs.Reads.{Always}
use Rattle.amqp_ser.specs.Tree.{Tree, Scalar, scalar}
use Rattle.amqp_de.specs.Results.{ReadsAndRestores}

module _ {T A : Type 0} (kind : A → Scalar) (content : T → A) where
  abbrev pub Holding : Tree → T → Type 0
  Holding t x = t ≡ scalar (kind (content x))

  abbrev pub ReadingContent : Tree → T → Type 0
  ReadingContent = ReadsAndRestores Holding (λ x. scalar (kind (content x))) Always (λ x y. content x ≡ content y)

  module _ (told : (a b : A) → kind a ≡ kind b → a ≡ b) where
    content_read : (t : Tree) (x : T) → Holding t x → ReadingContent t x
    content_read t x e = (e, λ y some f. let same : kind (content x) ≡ kind (content y) = cc in told (content x) (content y) same)

    zip_contents : (ts : List Tree) (xs : List T) → AllZip Holding ts xs → AllZip ReadingContent ts xs
    zip_contents [] [] h = tt
    zip_contents [] (x ∷ xs) h = absurd h
    zip_contents (t ∷ ts) [] h = absurd h
    zip_contents (t ∷ ts) (x ∷ xs) h = (content_read t x h.0, zip_contents ts xs h.1)

    pub contents_read : {R F : Type 0} (items : R → List T) (holds : List Tree → Type 0) (r : Result R F) → IfOk r (λ v. (ts : List Tree) × holds ts × AllZip Holding ts (items v))
        → IfOk r (λ v. (ts : List Tree) × holds ts × AllZip ReadingContent ts (items v))
    contents_read items holds (Ok v) (ts, h, zip) = (ts, h, zip_contents ts (items v) zip)
    contents_read items holds (Err e) h = tt

  all_contents : (xs : List T) → AllZip Holding (map (λ x. scalar (kind (content x))) xs) xs
  all_contents [] = tt
  all_contents (x ∷ xs) = (refl, all_contents xs)

  pub no_contents : {R F : Type 0} (whole : Type 0) (memory : F → Type 0) (ts : List Tree) (r : Result R F)
      → IfErr r (λ e. whole → memory e ⊎ ((xs : List T) → ¬ AllZip Holding ts xs))
      → (xs : List T) → AllByRecursion Always xs → ts ≡ map (λ x. scalar (kind (content x))) xs → IfErr r (λ e. whole → memory e)
  no_contents whole memory ts (Ok v) h xs some is = tt
  no_contents whole memory ts (Err e) h xs some is = λ w. elim (h w) [
    | inl m ↦ m
    | inr none ↦ let all : AllZip Holding ts xs = subst (λ us. AllZip Holding us xs) (sym is) (all_contents xs) in absurd (none xs all)
  ]
