-- Pairs that are converted, and inserted into a hash map in order.
use Rattle.std.proofs.Common.{◌≡◌, Bool, true, false, List, [], ◌∷◌, ◌++◌, Option, None, Some, Result, Ok, Err, IfOk, is_ok, ◌∙◌}
use Rattle.std.specs.HashMap as hashed
use Rattle.std.specs.List.Sorted.{IsPermutation}
use Rattle.std.specs.List.{AllByRecursion}
use Rattle.std.specs.Map.{update_all}
use Rattle.amqp_value.specs.Converts.{PairsGive}
use Rattle.amqp_value.specs.Inserted.{EachBefore}
use Rattle.amqp_value.specs.declared.try_from.ConvertFault.{ConvertFault}
use Rattle.amqp_value.specs.declared.try_from.ConvertFault.TheVariants.{Unfit, Memory}
use Rattle.amqp_value.specs.declared.value.Value.{Value}

all_prefix : {X : Type 0} (P : X → Type 0) (xs : List X) (x : X) → AllByRecursion P (xs ++ x ∷ []) → AllByRecursion P xs × P x
all_prefix P [] x all = (tt, all.0)
all_prefix P (y ∷ xs) x all = let (some, last) = all_prefix P xs x all.1 in ((all.0, some), last)

-- If `R` relates each element to every later one, it relates each of the others to the last, and
-- the others among themselves.
pub before_last : {X : Type 0} (R : X → X → Type 0) (xs : List X) (x : X) → EachBefore R (xs ++ x ∷ []) → EachBefore R xs × AllByRecursion (λ y. R y x) xs
before_last R [] x each = (tt, tt)
before_last R (y ∷ xs) x each =
    let (some, last) = all_prefix (R y) xs x each.0 in
    let (others, after) = before_last R xs x each.1 in
    ((some, others), (last, after))

module _ {K V : Type 0} (eq : K → K → Bool) where
  -- A key without a value has none after updates of other keys.
  pub new_is_absent : ((k l : K) → eq k l ≡ eq l k) → (es : List (K × V)) (f : K → Option V) (k : K) → f k ≡ None → AllByRecursion (λ e. eq k e.0 ≡ false) es → update_all eq f es k ≡ None
  new_is_absent flips [] f k none all = none
  new_is_absent flips (e ∷ es) f k none all = let other : eq e.0 k ≡ false = flips e.0 k ∙ all.0 in new_is_absent flips es _ k (rw other none) all.1

module _ {K V H E : Type 0} where
  -- Inserting a new key adds its pair to the entries.
  pub put_new : (eq : K → K → Bool) (m n : hashed.HashMap K V H) (k : K) (v : V) (r : Result (Option V) E) → IfOk r (λ old. old ≡ hashed.get eq m k) → IfOk r (hashed.PutsEntry eq m n k v) → is_ok r ≡ true
      → hashed.get eq m k ≡ None → IsPermutation ((k, v) ∷ m.entries) n.entries
  put_new eq m n k v (Ok None) old puts ok absent = puts
  put_new eq m n k v (Ok (Some w)) old puts ok absent = absurd (cc)
  put_new eq m n k v (Err e) old puts ok absent = absurd (cc)

-- The conversion of pairs also gives what a weaker relation permits.
pub gives_weaker : {K X R : Type 0} (kg : Value → Result K Value → Type 0) (vg : Value → Result X Value → Type 0) (M N : List (K × X) → R → Type 0) → ((done : List (K × X)) (made : R) → M done made → N done made)
    → (ps : List (Value × Value)) (r : Result R ConvertFault) → PairsGive kg vg M ps r → PairsGive kg vg N ps r
gives_weaker kg vg M N weaken ps (Ok made) h = (h.0, h.1, weaken h.0 made h.2)
gives_weaker kg vg M N weaken ps (Err (Unfit v)) h = h
gives_weaker kg vg M N weaken ps (Err Memory) h = h
