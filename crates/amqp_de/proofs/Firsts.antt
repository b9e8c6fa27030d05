-- A given number of elements, read in order from a list that may have more.
use Rattle.std.proofs.Common.{◌≡◌, ℕ, zero, suc, ◌<◌, ◌≤◌, List, [], ◌∷◌, ◌++◌, length, map, take, refl, sym, subst, ap, ◌∙◌, arith}
use Rattle.std.proofs.Math.Seq.{take-append_seam}
use Rattle.std.proofs.lemmas.List.{append-nil}
use Rattle.std.proofs.lemmas.Slice.Zip.{AllZip-long}
use Rattle.std.specs.List.{AllZip}
use Rattle.amqp_ser.specs.Tree.{Tree}
use Rattle.amqp_de.specs.Reads.{ReadsFirst}

pub firsts_of : {A : Type 0} (n : ℕ) (done rest : List A) → length done ≡ n → take n (done ++ rest) ≡ done
firsts_of n done rest long = ap (λ m. take m (done ++ rest)) (sym long) ∙ take-append_seam done rest

module _ {T : Type 0} (R : Tree → T → Type 0) where
  -- The values read are those of the first elements.
  pub firsts_read : (n : ℕ) (done rest : List Tree) (xs : List T) → AllZip R done xs → length xs ≡ n → AllZip R (take n (done ++ rest)) xs
  firsts_read n done rest xs zip long = rw (firsts_of n done rest (sym (AllZip-long R done xs zip) ∙ long)) zip

  not_more : (n : ℕ) (ts : List Tree) (xs : List T) → AllZip R (take n ts) xs → length xs ≤ length ts
  not_more zero ts [] h = omega arith
  not_more zero ts (x ∷ xs) h = absurd h
  not_more (suc n) [] [] h = omega arith
  not_more (suc n) [] (x ∷ xs) h = absurd h
  not_more (suc n) (t ∷ ts) [] h = absurd h
  not_more (suc n) (t ∷ ts) (x ∷ xs) h = let fewer = not_more n ts xs h.1 in omega arith

  -- If there are fewer elements, no values are read.
  pub too_few : (n : ℕ) (whole : List Tree) (short : length whole < n) (ys : List T) → ¬ ReadsFirst R n whole ys
  too_few n whole short ys (long, zip) =
      let fewer = not_more n whole ys zip in
      absurd (omega arith)

  firsts_none : (n : ℕ) (done : List Tree) (t : Tree) (rest : List Tree) → length done < n → ((x : T) → ¬ R t x) → (xs : List T) → ¬ AllZip R (take n (done ++ t ∷ rest)) xs
  firsts_none zero done t rest short none xs h = absurd (omega arith)
  firsts_none (suc n) [] t rest short none [] h = h
  firsts_none (suc n) [] t rest short none (x ∷ xs) h = none x h.0
  firsts_none (suc n) (u ∷ us) t rest short none [] h = h
  firsts_none (suc n) (u ∷ us) t rest short none (x ∷ xs) h =
      let shorter : length us < n = omega arith in
      firsts_none n us t rest shorter none xs h.1

  -- If one of the first elements cannot be read, no values are read.
  pub firsts_refused : (n : ℕ) (whole done : List Tree) (t : Tree) (rest : List Tree) → whole ≡ done ++ t ∷ rest → length done < n → ((x : T) → ¬ R t x)
      → (ys : List T) → ¬ ReadsFirst R n whole ys
  firsts_refused n whole done t rest is short none ys (long, zip) =
      firsts_none n done t rest short none ys (subst (λ ts. AllZip R (take n ts) ys) is zip)

  pub as_long : (n : ℕ) (done : List Tree) (xs : List T) → AllZip R done xs → length xs < n → length done < n
  as_long n done xs zip short = let same = AllZip-long R done xs zip in omega arith

map_long : {A B : Type 0} (f : A → B) (xs : List A) → length (map f xs) ≡ length xs
map_long f [] = refl
map_long f (x ∷ xs) = ap suc (map_long f xs)

-- All images are as many as the values.
pub too_few_images : {A T M : Type 0} (n : ℕ) (image : T → A) (whole : List A) (xs : List T) → length whole < n → length xs ≡ n → whole ≡ map image xs → M
too_few_images n image whole xs short long is =
    let same : length whole ≡ length xs = ap length is ∙ map_long image xs in
    absurd (omega arith)

-- The first elements of the images of as many values are all of them.
pub all_firsts : {A T : Type 0} (n : ℕ) (image : T → A) (ts : List A) (xs : List T) → length xs ≡ n → ts ≡ map image xs → take n ts ≡ map image xs
all_firsts n image ts xs long is =
    let same : length ts ≡ n = ap length is ∙ map_long image xs ∙ long in
    ap (take n) (sym (append-nil ts)) ∙ firsts_of n ts [] same ∙ is
