-- Lists whose items are related index by index, and the items that an iterator of a vector has
-- returned.
use Rattle.std.proofs.Common.{◌≡◌, List, [], ◌∷◌, ◌++◌, ◌∙◌, ap, sym, subst, refl, fold, map, Option, Some, None, IsSomeAnd, MatchResult, true, Result, Ok, Err, is_ok, OnOk, true≢false}
use Rattle.std.specs.Iterator.{Yields}
use Rattle.std.specs.List.{AllZip}
use Rattle.std.specs.Vec.Iter.{into_iter_items, into_iter_steps}
use Rattle.std.specs.declared.vec.IntoIter.{IntoIter}
use Rattle.amqp_data.specs.Pairs.{entries_of, insert_pairs}
use Rattle.amqp_data.proofs.OrderLemmas.{taken_one}
use Rattle.amqp_data.specs.declared.error.Error.{Error}
use Rattle.amqp_data.specs.declared.error.Error.TheVariants.{OutOfMemory}
use Rattle.amqp_value.specs.Contents.{map_in}
use Rattle.amqp_value.specs.Converts.{FirstFits, IsMapOf, StopsAt, ConvertsAll, PairConverts, PairFits, PairFails, PairGives, PairsGive}
use Rattle.amqp_value.specs.Equal.{equal}
use Rattle.amqp_value.specs.declared.try_from.ConvertFault.{ConvertFault}
use Rattle.amqp_value.specs.declared.try_from.ConvertFault.TheVariants.{Unfit, Memory}
use Rattle.amqp_value.specs.declared.value.Value.{Value}

pub zip_push : {A B : Type 0} (R : A → B → Type 0) (xs : List A) (ys : List B) (x : A) (y : B) → AllZip R xs ys → R x y → AllZip R (xs ++ x ∷ []) (ys ++ y ∷ [])
zip_push R [] [] x y h r = (r, tt)
zip_push R [] (z ∷ ys) x y h r = absurd h
zip_push R (w ∷ xs) [] x y h r = absurd h
zip_push R (w ∷ xs) (z ∷ ys) x y h r = (h.0, zip_push R xs ys x y h.1 r)

pub stops : {A B Z : Type 0} (Fits : A → B → Type 0) (Fails : A → Value → Type 0) (all : List A) (s : IntoIter A Z) (xs : List A) (t : IntoIter A Z) (x : A) (u : IntoIter A Z) (done : List B) (v : Value)
    → into_iter_items s ≡ all → Yields into_iter_steps s xs t → into_iter_steps t (Some x) u → AllZip Fits xs done → Fails x v → StopsAt Fits Fails all v
stops Fits Fails all s xs t x u done v is y z fit unfit = record {
  before = xs;
  done = done;
  at = x;
  after = into_iter_items u;
  split = sym is ∙ taken_one s xs t x u y z;
  fit = fit;
  fails = unfit;
}

prefix : {A B : Type 0} (Fits : A → B → Type 0) (xs : List A) (x : A) (rest : List A) (done : List B) (y : B) → AllZip Fits xs done → Fits x y → FirstFits Fits (xs ++ x ∷ rest)
prefix Fits [] x rest done y fit here = (y, here)
prefix Fits (w ∷ xs) x rest [] y fit here = absurd fit
prefix Fits (w ∷ xs) x rest (d ∷ done) y fit here = (d, fit.0)

-- If the items so far fit and this item fits, the first item fits.
pub first_fits : {A B Z : Type 0} (Fits : A → B → Type 0) (all : List A) (s : IntoIter A Z) (xs : List A) (t : IntoIter A Z) (x : A) (u : IntoIter A Z) (done : List B) (y : B)
    → into_iter_items s ≡ all → Yields into_iter_steps s xs t → into_iter_steps t (Some x) u → AllZip Fits xs done → Fits x y → FirstFits Fits all
first_fits Fits all s xs t x u done y is yields step fit here =
    subst (FirstFits Fits) (sym (taken_one s xs t x u yields step) ∙ is) (prefix Fits xs x (into_iter_items u) done y fit here)

-- Out of memory is a permitted result if this item fits.
pub wants_memory : {A B R Z : Type 0} (Fits : A → B → Type 0) (Fails : A → Value → Type 0) (Made : List B → R → Type 0) (all : List A) (s : IntoIter A Z) (xs : List A) (t : IntoIter A Z) (x : A) (u : IntoIter A Z) (done : List B) (y : B) (r : Result R ConvertFault)
    → into_iter_items s ≡ all → Yields into_iter_steps s xs t → into_iter_steps t (Some x) u → AllZip Fits xs done → Fits x y → r ≡ Err Memory → ConvertsAll Fits Fails Made all r
wants_memory Fits Fails Made all s xs t x u done y r is yields step fit here e =
    subst (ConvertsAll Fits Fails Made all) (sym e) (first_fits Fits all s xs t x u done y is yields step fit here)

pub fold_push : {A B : Type 0} (f : B → A → B) (b : B) (xs : List A) (x : A) → fold f b (xs ++ x ∷ []) ≡ f (fold f b xs) x
fold_push f b [] x = refl
fold_push f b (y ∷ xs) x = fold_push f (f b y) xs x

-- A collection that is built by `f`, item by item, is extended with one more item.
pub fold_pushed : {A B : Type 0} (f : B → A → B) (b : B) (xs : List A) (x : A) (old new : B) → new ≡ f old x → old ≡ fold f b xs → new ≡ fold f b (xs ++ x ∷ [])
fold_pushed f b xs x old new put is = put ∙ ap (λ c. f c x) is ∙ sym (fold_push f b xs x)

-- The conversion stops at a pair that does not fit, and the error contains the key or value.
pub pair_stops : {K X A R : Type 0} (kg : Value → Result K Value → Type 0) (vg : Value → Result X Value → Type 0) (Made : List (K × X) → R → Type 0)
    (all : List (Value × Value)) (s : IntoIter (Value × Value) A) (xs : List (Value × Value)) (t : IntoIter (Value × Value) A) (p : Value × Value) (u : IntoIter (Value × Value) A) (done : List (K × X)) (fault : ConvertFault) (r : Result R ConvertFault)
    → into_iter_items s ≡ all → Yields into_iter_steps s xs t → into_iter_steps t (Some p) u → AllZip (PairFits kg vg) xs done → PairGives kg vg p (Err fault) → r ≡ Err fault → PairsGive kg vg Made all r
pair_stops kg vg Made all s xs t p u done (Unfit v) r is y z fit unfit e = subst (PairsGive kg vg Made all) (sym e) (stops (PairFits kg vg) (PairFails kg vg) all s xs t p u done v is y z fit unfit)
pair_stops kg vg Made all s xs t p u done Memory r is y z fit unfit e = absurd unfit

pub on_ok : {T E : Type 0} (r : Result T E) (P : Type 0) → OnOk r P → is_ok r ≡ true → P
on_ok (Ok x) P h e = h
on_ok (Err x) P h e = absurd (true≢false (sym e))

some_and : {A : Type 0} (P Q : A → Type 0) (o : Option A) → ((x : A) → P x → Q x) → IsSomeAnd o P → IsSomeAnd o Q
some_and P Q (Some x) step h = step x h
some_and P Q None step h = absurd h

-- The items as they are.
pub same_items : {A : Type 0} (xs : List A) → map (λ x. x) xs ≡ xs
same_items [] = refl
same_items (x ∷ xs) = ap (λ ys. x ∷ ys) (same_items xs)

-- The entries are converted one by one, and then inserted in order.
pub converted_map : {K X : Type 0} (kc : K → Value → Type 0) (xc : X → Value → Type 0) (es : List (K × X)) (ps : List (Value × Value)) (r : Result Value Error) → AllZip (PairConverts kc xc) es ps
    → MatchResult r (λ v. IsSomeAnd (map_in v) (λ map. entries_of map ≡ insert_pairs equal ps [])) (λ e. e ≡ OutOfMemory)
    → MatchResult r (λ v. IsSomeAnd (map_in v) (IsMapOf equal kc xc es)) (λ e. e ≡ OutOfMemory)
converted_map kc xc es ps (Ok v) each h = some_and _ _ (map_in v) (λ map is. (ps, each, is)) h
converted_map kc xc es ps (Err e) each h = h
