-- What is read from a map, from what is read from its keys and values.
use Rattle.std.proofs.Common.{◌≡◌, Bool, true, false, true≢false, if◌then◌else◌, List, [], ◌∷◌, map, refl, sym, ap, ◌∙◌, subst}
use Rattle.std.specs.Bool.{OnTrue}
use Rattle.std.specs.List.{AllZip, AllByRecursion}
use Rattle.std.specs.Map.{keys_of}
use Rattle.amqp_data.specs.Pairs.{insert_pair, LacksKey, AreDistinct}
use Rattle.amqp_ser.specs.Same.{same_tree}
use Rattle.amqp_ser.specs.Tree.{Tree, Scalar, scalar, pair}
use Rattle.amqp_value.proofs.SameLemmas.{same-equal, same-itself}
use Rattle.amqp_value.proofs.Sameness.{equal, equal-is_same}
use Rattle.amqp_value.specs.Image.{insert_tree}
use Rattle.amqp_value.specs.TreeOf.{pairs_of, tree_of}
use Rattle.amqp_value.specs.declared.value.Value.{Value}
use Rattle.amqp_de.specs.Results.{ReadsAndRestores}
use Rattle.amqp_de.specs.Maps.{AreApart, OnMap, ReadsPair, ReadsPairs, pair_image, IsPair, SamePair, EachBefore}
use Rattle.amqp_de.proofs.Lists.{is_map}

-- Inserting a pair of trees.
module _ (k v : Tree) (e : Tree × Tree) (es : List (Tree × Tree)) (rest : pairs_of (insert_pair same_tree es k v) ≡ insert_tree (pairs_of es) k v) where
  present_or_not : (b : Bool) → pairs_of (if b then (e.0, v) ∷ es else e ∷ insert_pair same_tree es k v)
      ≡ (if b then pair e.0 v (pairs_of es) else pair e.0 e.1 (insert_tree (pairs_of es) k v))
  present_or_not true = refl
  present_or_not false = ap (pair e.0 e.1) rest

pub pairs_inserted : (es : List (Tree × Tree)) (k v : Tree) → pairs_of (insert_pair same_tree es k v) ≡ insert_tree (pairs_of es) k v
pairs_inserted [] k v = refl
pairs_inserted (e ∷ es) k v = present_or_not k v e es (pairs_inserted es k v) (same_tree k e.0)

-- Trees that are read as distinct keys are apart, if each tree is read as equal keys alone.
module _ {K : Type 0} (R : Tree → K → Type 0) (eq : K → K → Bool) (told : (t : Tree) (x y : K) → R t x → R t y → eq x y ≡ true) where
  two_apart : (b : Bool) (t u : Tree) (x y : K) → same_tree u t ≡ b → R t x → R u y → eq x y ≡ false → b ≡ false
  two_apart false t u x y is r s differ = refl
  two_apart true t u x y is r s differ =
      let same : u ≡ t = same-equal u t is in
      absurd (true≢false (sym (told t x y r (subst (λ z. R z y) same s)) ∙ differ))

  apart_after : (t : Tree) (x : K) (us : List Tree) (ys : List K) → R t x → AllZip R us ys → LacksKey eq x ys → AllByRecursion (λ u. same_tree u t ≡ false) us
  apart_after t x [] [] r zip lacks = tt
  apart_after t x [] (y ∷ ys) r zip lacks = absurd zip
  apart_after t x (u ∷ us) [] r zip lacks = absurd zip
  apart_after t x (u ∷ us) (y ∷ ys) r zip lacks = (two_apart (same_tree u t) t u x y refl r zip.0 lacks.0, apart_after t x us ys r zip.1 lacks.1)

  pub apart_trees : (xs : List K) → AreDistinct eq xs → (ts : List Tree) → AllZip R ts xs → AreApart ts
  apart_trees [] distinct [] zip = tt
  apart_trees [] distinct (t ∷ ts) zip = absurd zip
  apart_trees (x ∷ xs) distinct [] zip = absurd zip
  apart_trees (x ∷ xs) distinct (t ∷ ts) zip = (apart_after t x ts xs zip.0 zip.1 distinct.0, apart_trees xs distinct.1 ts zip.1)

-- Entries whose keys are apart are inserted unchanged.
apart_entry : (t : Tree × Tree) (us : List (Tree × Tree)) → AllByRecursion (λ u. same_tree u t.0 ≡ false) (keys_of us) → AllByRecursion (λ (u : Tree × Tree). same_tree u.0 t.0 ≡ false) us
apart_entry t [] all = tt
apart_entry t (u ∷ us) all = (all.0, apart_entry t us all.1)

pub apart_entries : (ts : List (Tree × Tree)) → AreApart (keys_of ts) → EachBefore (λ (p q : Tree × Tree). same_tree q.0 p.0 ≡ false) ts
apart_entries [] apart = tt
apart_entries (t ∷ ts) apart = (apart_entry t ts apart.0, apart_entries ts apart.1)

module _ {K V : Type 0} (RK : Tree → K → Type 0) (imageK : K → Tree) (PK : K → Type 0) (SK : K → K → Type 0)
    (RV : Tree → V → Type 0) (imageV : V → Tree) (PV : V → Type 0) (SV : V → V → Type 0) where
  abbrev pub ReadingPair : Tree × Tree → K × V → Type 0
  ReadingPair = ReadsPair (ReadsAndRestores RK imageK PK SK) (ReadsAndRestores RV imageV PV SV)

  pub pairs_read : (ts : List (Tree × Tree)) (ps : List (K × V)) → AllZip ReadingPair ts ps → AllZip (ReadsPair RK RV) ts ps
  pairs_read [] [] zip = tt
  pairs_read [] (p ∷ ps) zip = absurd zip
  pairs_read (t ∷ ts) [] zip = absurd zip
  pairs_read (t ∷ ts) (p ∷ ps) zip = ((zip.0.0.0, zip.0.1.0), pairs_read ts ps zip.1)

  pub keys_read : (ts : List (Tree × Tree)) (ps : List (K × V)) → AllZip ReadingPair ts ps → AllZip RK (keys_of ts) (keys_of ps)
  keys_read [] [] zip = tt
  keys_read [] (p ∷ ps) zip = absurd zip
  keys_read (t ∷ ts) [] zip = absurd zip
  keys_read (t ∷ ts) (p ∷ ps) zip = (zip.0.0.0, keys_read ts ps zip.1)

  pub pairs_same : (ts : List (Tree × Tree)) (ps xs : List (K × V)) → AllZip ReadingPair ts ps → AllByRecursion (IsPair PK PV) xs → ts ≡ map (pair_image imageK imageV) xs → AllZip (SamePair SK SV) ps xs
  pairs_same [] [] [] zip all is = tt
  pairs_same [] [] (x ∷ xs) zip all is = absurd cc
  pairs_same [] (p ∷ ps) xs zip all is = absurd zip
  pairs_same (t ∷ ts) [] xs zip all is = absurd zip
  pairs_same (t ∷ ts) (p ∷ ps) [] zip all is = absurd cc
  pairs_same (t ∷ ts) (p ∷ ps) (x ∷ xs) zip all is =
      let head : t ≡ (imageK x.0, imageV x.1) = cc in
      let tail : ts ≡ map (pair_image imageK imageV) xs = cc in
      let key : t.0 ≡ imageK x.0 = ap (λ (z : Tree × Tree). z.0) head in
      let value : t.1 ≡ imageV x.1 = ap (λ (z : Tree × Tree). z.1) head in
      ((zip.0.0.1 x.0 all.0.0 key, zip.0.1.1 x.1 all.0.1 value), pairs_same ts ps xs zip.1 all.1 tail)

-- A map of these pairs, and what holds the entries that are read from them.
module _ {K V M : Type 0} (R : Tree → K → Type 0) (Q : Tree → V → Type 0) (Holds : List (K × V) → M → Type 0) (m : M) (t : Tree) where
  pub to_pairs : (xs : List (K × V)) → OnMap (λ ts. AllZip (ReadsPair R Q) ts xs) t → Holds xs m → OnMap (λ ts. ReadsPairs R Q Holds ts m) t
  unfolding OnMap
  to_pairs xs h holds = let (ps, is, zip) = is_map (λ ts. AllZip (ReadsPair R Q) ts xs) t h in subst (OnMap (λ ts. ReadsPairs R Q Holds ts m)) (sym is) (xs, zip, holds)

  pub of_pairs : OnMap (λ ts. ReadsPairs R Q Holds ts m) t → (xs : List (K × V)) × OnMap (λ ts. AllZip (ReadsPair R Q) ts xs) t
  unfolding OnMap
  of_pairs h = let (ps, is, held) = is_map (λ ts. ReadsPairs R Q Holds ts m) t h in (held.0, subst (OnMap (λ ts. AllZip (ReadsPair R Q) ts held.0)) (sym is) held.1)

-- A type that is read from scalars of one kind, and a test that holds for keys of the same content.
module _ {T A : Type 0} (kind : A → Scalar) (told : (a b : A) → kind a ≡ kind b → a ≡ b) (content : T → A) (eq : T → T → Bool) (equal : (x y : T) → content x ≡ content y → eq x y ≡ true) where
  leaf_told : (t : Tree) (x y : T) → t ≡ scalar (kind (content x)) → t ≡ scalar (kind (content y)) → eq x y ≡ true
  leaf_told t x y r s =
      let same : kind (content x) ≡ kind (content y) = cc in
      equal x y (told (content x) (content y) same)

  pub leaves_apart : (b : Bool) (xs : List T) → OnTrue b (AreDistinct eq xs)
      → OnTrue b ((ts : List Tree) → AllZip (λ t x. t ≡ scalar (kind (content x))) ts xs → AreApart ts)
  leaves_apart false xs distinct = tt
  leaves_apart true xs distinct = apart_trees (λ t x. t ≡ scalar (kind (content x))) eq leaf_told xs distinct

value_told : (t : Tree) (x y : Value) → tree_of x ≡ t → tree_of y ≡ t → equal x y ≡ true
value_told t x y r s = equal-is_same x y ∙ rw (r ∙ sym s) (same-itself (tree_of y))

pub values_apart : (b : Bool) (xs : List Value) → OnTrue b (AreDistinct equal xs) → OnTrue b ((ts : List Tree) → AllZip (λ t x. tree_of x ≡ t) ts xs → AreApart ts)
values_apart false xs distinct = tt
values_apart true xs distinct = apart_trees (λ t x. tree_of x ≡ t) equal value_told xs distinct
