-- Lookup and insertion of a key, by its position in the list.
use Rattle.std.proofs.Common.{◌≡◌, ℕ, zero, suc, ◌<◌, Bool, true, false, List, [], ◌∷◌, ◌++◌, length, get_or, slice_set, position, Some, None, refl, sym, ap, ◌∙◌, subst, append_assoc, arith}
use Rattle.std.proofs.lemmas.List.{append-nil}
use Rattle.std.proofs.lemmas.List.Quantifiers.{position-Some}
use Rattle.std.specs.Map.{keys_of, lookup}
use Rattle.amqp_data.specs.Pairs.{insert_pair, insert_pairs, LacksKey, AreDistinct}
use Rattle.amqp_data.proofs.Searches.{AllFail, fail_by_position}

module _ {K V : Type 0} (eq : K → K → Bool) (k : K) where
  -- the pair at position i is the first whose key equals k
  abbrev pub IsFirst : List (K × V) → ℕ → (K × V) → Type 0
  IsFirst es i d = (i < length es) × (eq k (get_or es i d).0 ≡ true) × ((j : ℕ) → j < i → eq k (get_or es j d).0 ≡ false)

  -- if the first such pair of a list is at position i + 1, it is at position i of the tail
  pub tail_first : (e : K × V) (es : List (K × V)) (i : ℕ) (d : K × V) → IsFirst (e ∷ es) (suc i) d → IsFirst es i d
  tail_first e es i d first = (omega arith, first.1, λ j below. first.2 (suc j) (omega arith))

  lookup_absent : (es : List (K × V)) → AllFail (λ e. eq k e.0) es → lookup (eq k) es ≡ None
  lookup_absent [] fails = refl
  lookup_absent (e ∷ es) fails = rw fails.0 (lookup_absent es fails.1)

  insert_absent : (es : List (K × V)) (v : V) → AllFail (λ e. eq k e.0) es → insert_pair eq es k v ≡ es ++ (k, v) ∷ []
  insert_absent [] v fails = refl
  insert_absent (e ∷ es) v fails = rw fails.0 (ap (λ r. e ∷ r) (insert_absent es v fails.1))

  lookup_first : (es : List (K × V)) (i : ℕ) (d : K × V) → IsFirst es i d → lookup (eq k) es ≡ Some (get_or es i d).1
  lookup_first [] i d first = absurd (omega (arith, first.0))
  lookup_first (e ∷ es) zero d first = rw first.1
  lookup_first (e ∷ es) (suc i) d first = rw (first.2 0 (omega arith)) (lookup_first es i d (tail_first e es i d first))

  insert_first : (es : List (K × V)) (v : V) (i : ℕ) (d : K × V) → IsFirst es i d
      → slice_set es i ((get_or es i d).0, v) ≡ insert_pair eq es k v
  insert_first [] v i d first = absurd (omega (arith, first.0))
  insert_first (e ∷ es) v zero d first = rw first.1
  insert_first (e ∷ es) v (suc i) d first =
      rw (first.2 0 (omega arith)) (ap (λ r. e ∷ r) (insert_first es v i d (tail_first e es i d first)))

  -- looking up a key that has no position returns `None`
  pub lookup_none : (es : List (K × V)) → None ≡ position (λ e. eq k e.0) es → None ≡ lookup (eq k) es
  lookup_none es none = sym (lookup_absent es (fail_by_position (λ e. eq k e.0) es (sym none)))

  -- inserting a key that has no position appends its pair
  pub insert_new : (es : List (K × V)) (v : V) → None ≡ position (λ e. eq k e.0) es → es ++ (k, v) ∷ [] ≡ insert_pair eq es k v
  insert_new es v none = sym (insert_absent es v (fail_by_position (λ e. eq k e.0) es (sym none)))

  -- looking up a key that has a position returns the value at that position
  pub lookup_found : (es : List (K × V)) (i : ℕ) (e : K × V) → Some i ≡ position (λ x. eq k x.0) es → e ≡ get_or es i e
      → Some e.1 ≡ lookup (eq k) es
  lookup_found es i e found is =
      ap (λ x. Some x.1) is ∙ sym (lookup_first es i e (position-Some (λ x. eq k x.0) es i e (sym found)))

  -- inserting a key that has a position replaces the value at that position
  pub insert_found : (es : List (K × V)) (v : V) (i : ℕ) (e : K × V) → Some i ≡ position (λ x. eq k x.0) es → e ≡ get_or es i e
      → slice_set es i (e.0, v) ≡ insert_pair eq es k v
  insert_found es v i e found is =
      ap (λ x. slice_set es i (x.0, v)) is ∙ insert_first es v i e (position-Some (λ x. eq k x.0) es i e (sym found))

module _ {K V : Type 0} (eq : K → K → Bool) (symmetric : (x y : K) → eq x y ≡ eq y x) (k : K) (v : V) where
  lacks_step : (x : K) (b : Bool) (e : K × V) (es : List (K × V)) → eq k e.0 ≡ b → LacksKey eq x (keys_of (e ∷ es))
      → LacksKey eq x (keys_of (insert_pair eq es k v)) → LacksKey eq x (keys_of (insert_pair eq (e ∷ es) k v))
  lacks_step x true e es is lacks rest = rw is lacks
  lacks_step x false e es is lacks rest = rw is (lacks.0, rest)

  -- a list without the key x still has none after another key is inserted
  lacks_after : (x : K) (es : List (K × V)) → eq k x ≡ false → LacksKey eq x (keys_of es) → LacksKey eq x (keys_of (insert_pair eq es k v))
  lacks_after x [] other lacks = (symmetric x k ∙ other, tt)
  lacks_after x (e ∷ es) other lacks = lacks_step x (eq k e.0) e es refl lacks (lacks_after x es other lacks.1)

  distinct_step : (b : Bool) (e : K × V) (es : List (K × V)) → eq k e.0 ≡ b → AreDistinct eq (keys_of (e ∷ es))
      → AreDistinct eq (keys_of (insert_pair eq es k v)) → AreDistinct eq (keys_of (insert_pair eq (e ∷ es) k v))
  distinct_step true e es is distinct rest = rw is distinct
  distinct_step false e es is distinct rest = rw is (lacks_after e.0 es is distinct.0, rest)

  -- insertion keeps distinct keys distinct
  pub distinct_after : (es : List (K × V)) → AreDistinct eq (keys_of es) → AreDistinct eq (keys_of (insert_pair eq es k v))
  distinct_after [] distinct = (tt, tt)
  distinct_after (e ∷ es) distinct = distinct_step (eq k e.0) e es refl distinct (distinct_after es distinct.1)

module _ {K V : Type 0} (eq : K → K → Bool) (symmetric : (x y : K) → eq x y ≡ eq y x) where
  -- a new key is unequal to the others
  pub distinct_push : (es : List (K × V)) (k : K) (v : V) → AreDistinct eq (keys_of es) → None ≡ position (λ e. eq k e.0) es
      → AreDistinct eq (keys_of (es ++ (k, v) ∷ []))
  distinct_push es k v distinct none =
      subst (λ (fs : List (K × V)). AreDistinct eq (keys_of fs)) (sym (insert_new eq k es v none)) (distinct_after eq symmetric k v es distinct)

  -- entries that are inserted in order have distinct keys
  pub inserted_distinct : (es done : List (K × V)) → AreDistinct eq (keys_of done) → AreDistinct eq (keys_of (insert_pairs eq es done))
  inserted_distinct [] done distinct = distinct
  inserted_distinct (e ∷ es) done distinct = inserted_distinct es (insert_pair eq done e.0 e.1) (distinct_after eq symmetric e.0 e.1 done distinct)

module _ {K V : Type 0} (eq : K → K → Bool) where
  -- one more pair after others
  pub insert_pairs_push : (es : List (K × V)) (e : K × V) (done : List (K × V)) → insert_pairs eq (es ++ e ∷ []) done ≡ insert_pair eq (insert_pairs eq es done) e.0 e.1
  insert_pairs_push [] e done = refl
  insert_pairs_push (x ∷ es) e done = insert_pairs_push es e (insert_pair eq done x.0 x.1)

  fail_push : (p : K × V → Bool) (xs : List (K × V)) (x : K × V) → AllFail p xs → p x ≡ false → AllFail p (xs ++ x ∷ [])
  fail_push p [] x fails is = (is, tt)
  fail_push p (y ∷ xs) x fails is = (fails.0, fail_push p xs x fails.1 is)

  -- no pair of the second list has a key of the first
  abbrev AllMiss : List (K × V) → List (K × V) → Type 0
  AllMiss [] done = Unit {0}
  AllMiss (e ∷ es) done = AllFail (λ (x : K × V). eq e.0 x.0) done × AllMiss es done

  miss_nothing : (es : List (K × V)) → AllMiss es []
  miss_nothing [] = tt
  miss_nothing (e ∷ es) = (tt, miss_nothing es)

  miss_push : ((x y : K) → eq x y ≡ eq y x) → (es : List (K × V)) (e : K × V) (done : List (K × V)) → LacksKey eq e.0 (keys_of es) → AllMiss es done → AllMiss es (done ++ e ∷ [])
  miss_push symmetric [] e done lacks misses = tt
  miss_push symmetric (x ∷ es) e done lacks misses =
      (fail_push (λ (y : K × V). eq x.0 y.0) done e misses.0 (symmetric x.0 e.0 ∙ lacks.0), miss_push symmetric es e done lacks.1 misses.1)

  insert_onto : ((x y : K) → eq x y ≡ eq y x) → (es done : List (K × V)) → AreDistinct eq (keys_of es) → AllMiss es done → insert_pairs eq es done ≡ done ++ es
  insert_onto symmetric [] done distinct misses = sym (append-nil done)
  insert_onto symmetric (e ∷ es) done distinct misses =
      ap (insert_pairs eq es) (insert_absent eq e.0 done e.1 misses.0)
      ∙ insert_onto symmetric es (done ++ e ∷ []) distinct.1 (miss_push symmetric es e done distinct.0 misses.1)
      ∙ append_assoc done (e ∷ []) es

  -- pairs with distinct keys stay as they are
  pub insert_pairs_distinct : ((x y : K) → eq x y ≡ eq y x) → (es : List (K × V)) → AreDistinct eq (keys_of es) → insert_pairs eq es [] ≡ es
  insert_pairs_distinct symmetric es distinct = insert_onto symmetric es [] distinct (miss_nothing es)

  -- a pair is inserted into pairs with distinct keys
  pub inserted_one : ((x y : K) → eq x y ≡ eq y x) → (old new : List (K × V)) (k : K) (v : V) → AreDistinct eq (keys_of old) → AreDistinct eq (keys_of new)
      → new ≡ insert_pair eq old k v → insert_pairs eq new [] ≡ insert_pair eq (insert_pairs eq old []) k v
  inserted_one symmetric old new k v before after is =
      insert_pairs_distinct symmetric new after ∙ is ∙ ap (λ es. insert_pair eq es k v) (sym (insert_pairs_distinct symmetric old before))
