-- Look-up by a test of the keys; removal and change of a key, by its position in the list.
use Rattle.std.proofs.Common.{◌≡◌, refl, ℕ, zero, suc, ◌<◌, ◌≤◌, Bool, true, false, cond, length, slice_get, option_map, List, [], ◌∷◌, ◌++◌, get_or, slice_set, remove, position, Some, None, sym, ap, ◌∙◌, arith}
use Rattle.std.proofs.lemmas.List.Quantifiers.{position-Some}
use Rattle.std.specs.List.{items_where_true}
use Rattle.std.specs.Map.{keys_of, lookup, remove_entry, set_value}
use Rattle.amqp_data.specs.MapLends.{with_value_at}
use Rattle.amqp_data.specs.Pairs.{LacksKey, AreDistinct, insert_pair, insert_pairs}
use Rattle.amqp_data.proofs.PairLemmas.{IsFirst, insert_pairs_push, lookup_found, lookup_none, tail_first}
use Rattle.amqp_data.proofs.Searches.{AllFail, fail_by_position}

module _ {K V : Type 0} (eq : K → K → Bool) (k : K) where
  remove_absent : (es : List (K × V)) → AllFail (λ e. eq k e.0) es → es ≡ remove_entry (eq k) es
  remove_absent [] fails = refl
  remove_absent (e ∷ es) fails = rw fails.0 (ap (λ r. e ∷ r) (remove_absent es fails.1))

  remove_first : (es : List (K × V)) (i : ℕ) (d : K × V) → IsFirst eq k es i d → remove es i ≡ remove_entry (eq k) es
  remove_first [] i d first = absurd (omega (arith, first.0))
  remove_first (e ∷ es) zero d first = rw first.1
  remove_first (e ∷ es) (suc i) d first =
      rw (first.2 0 (omega arith)) (ap (λ r. e ∷ r) (remove_first es i d (tail_first eq k e es i d first)))

  set_first : (es : List (K × V)) (v : V) (i : ℕ) (d : K × V) → IsFirst eq k es i d
      → slice_set es i ((get_or es i d).0, v) ≡ set_value (eq k) es v
  set_first [] v i d first = absurd (omega (arith, first.0))
  set_first (e ∷ es) v zero d first = rw first.1
  set_first (e ∷ es) v (suc i) d first =
      rw (first.2 0 (omega arith)) (ap (λ r. e ∷ r) (set_first es v i d (tail_first eq k e es i d first)))

  -- removing a key that has no position changes nothing
  pub remove_none : (es : List (K × V)) → None ≡ position (λ e. eq k e.0) es → es ≡ remove_entry (eq k) es
  remove_none es none = remove_absent es (fail_by_position (λ e. eq k e.0) es (sym none))

  -- removing a key that has a position removes the entry at that position
  pub remove_found : (es : List (K × V)) (i : ℕ) (e : K × V) → Some i ≡ position (λ x. eq k x.0) es
      → remove es i ≡ remove_entry (eq k) es
  remove_found es i e found = remove_first es i e (position-Some (λ x. eq k x.0) es i e (sym found))

  -- changing the value of a key that has a position changes the entry at that position
  pub set_found : (es : List (K × V)) (v : V) (i : ℕ) (e : K × V) → Some i ≡ position (λ x. eq k x.0) es → e ≡ get_or es i e
      → slice_set es i (e.0, v) ≡ set_value (eq k) es v
  set_found es v i e found is =
      ap (λ x. slice_set es i (x.0, v)) is ∙ set_first es v i e (position-Some (λ x. eq k x.0) es i e (sym found))

module _ {K V : Type 0} (test : K → Bool) where
  -- if no key passes the test, the look-up by it returns `None`
  pub lookup_by_none : (es : List (K × V)) → None ≡ position (λ e. test e.0) es → None ≡ lookup test es
  lookup_by_none [] none = refl
  lookup_by_none (e ∷ es) none = lookup_none (λ (_ k : K). test k) e.0 (e ∷ es) none

  -- the look-up returns the value at the position of the first key that passes the test
  pub lookup_by_found : (es : List (K × V)) (i : ℕ) (e : K × V) → Some i ≡ position (λ x. test x.0) es → e ≡ get_or es i e
      → Some e.1 ≡ lookup test es
  lookup_by_found es i e found is = lookup_found (λ (_ k : K). test k) e.0 es i e found is

  -- changing the value at the position of the first key that passes the test
  pub set_by_found : (es : List (K × V)) (v : V) (i : ℕ) (e : K × V) → Some i ≡ position (λ x. test x.0) es → e ≡ get_or es i e
      → slice_set es i (e.0, v) ≡ set_value test es v
  set_by_found es v i e found is = set_found (λ (_ k : K). test k) e.0 es v i e found is

module _ {K V : Type 0} where
  -- changing the value at a position changes that entry alone
  pub set_at : (es : List (K × V)) (v : V) (i : ℕ) (e : K × V) → e ≡ get_or es i e → slice_set es i (e.0, v) ≡ with_value_at es i v
  set_at [] v i e is = refl
  set_at (x ∷ es) v zero e is = ap (λ y. (y.0, v) ∷ es) is
  set_at (x ∷ es) v (suc i) e is = ap (λ r. x ∷ r) (set_at es v i e is)

  -- the value at a position, and that there is none past the end
  pub value_at : (es : List (K × V)) (i : ℕ) (e : K × V) → i < length es → e ≡ get_or es i e → Some e.1 ≡ option_map (λ x. x.1) (slice_get es i)
  value_at [] i e lt is = absurd (omega arith)
  value_at (x ∷ es) zero e lt is = ap (λ y. Some y.1) is
  value_at (x ∷ es) (suc i) e lt is = value_at es i e (omega arith) is

  pub no_value_at : (es : List (K × V)) (i : ℕ) → length es ≤ i → None ≡ option_map (λ x. x.1) (slice_get es i)
  no_value_at [] i le = refl
  no_value_at (x ∷ es) zero le = absurd (omega arith)
  no_value_at (x ∷ es) (suc i) le = no_value_at es i (omega arith)

module _ {K V : Type 0} (eq : K → K → Bool) (test : K → Bool) where
  lacks_step : (x : K) (b : Bool) (e : K × V) (es : List (K × V)) → test e.0 ≡ b → LacksKey eq x (keys_of (e ∷ es))
      → LacksKey eq x (keys_of (remove_entry test es)) → LacksKey eq x (keys_of (remove_entry test (e ∷ es)))
  lacks_step x true e es is lacks rest = rw is lacks.1
  lacks_step x false e es is lacks rest = rw is (lacks.0, rest)

  lacks_removed : (x : K) (es : List (K × V)) → LacksKey eq x (keys_of es) → LacksKey eq x (keys_of (remove_entry test es))
  lacks_removed x [] lacks = tt
  lacks_removed x (e ∷ es) lacks = lacks_step x (test e.0) e es refl lacks (lacks_removed x es lacks.1)

  distinct_step : (b : Bool) (e : K × V) (es : List (K × V)) → test e.0 ≡ b → AreDistinct eq (keys_of (e ∷ es))
      → AreDistinct eq (keys_of (remove_entry test es)) → AreDistinct eq (keys_of (remove_entry test (e ∷ es)))
  distinct_step true e es is distinct rest = rw is distinct.1
  distinct_step false e es is distinct rest = rw is (lacks_removed e.0 es distinct.0, rest)

  -- removal keeps distinct keys distinct
  pub distinct_removed : (es : List (K × V)) → AreDistinct eq (keys_of es) → AreDistinct eq (keys_of (remove_entry test es))
  distinct_removed [] distinct = tt
  distinct_removed (e ∷ es) distinct = distinct_step (test e.0) e es refl distinct (distinct_removed es distinct.1)

module _ {K V : Type 0} (eq : K → K → Bool) where
  lacks_kept : (x : K) (bs : List Bool) (es : List (K × V)) → LacksKey eq x (keys_of es) → LacksKey eq x (keys_of (items_where_true bs es))
  lacks_kept x [] es lacks = tt
  lacks_kept x (b ∷ bs) [] lacks = tt
  lacks_kept x (true ∷ bs) (e ∷ es) lacks = (lacks.0, lacks_kept x bs es lacks.1)
  lacks_kept x (false ∷ bs) (e ∷ es) lacks = lacks_kept x bs es lacks.1

  -- some of the entries have distinct keys if all have
  pub distinct_kept : (bs : List Bool) (es : List (K × V)) → AreDistinct eq (keys_of es) → AreDistinct eq (keys_of (items_where_true bs es))
  distinct_kept [] es distinct = tt
  distinct_kept (b ∷ bs) [] distinct = tt
  distinct_kept (true ∷ bs) (e ∷ es) distinct = (lacks_kept e.0 bs es distinct.0, distinct_kept bs es distinct.1)
  distinct_kept (false ∷ bs) (e ∷ es) distinct = distinct_kept bs es distinct.1

  -- one more pair is inserted
  pub extended_by : (items : List (K × V)) (k : K) (v : V) (first now after : List (K × V)) → after ≡ insert_pair eq now k v
      → now ≡ insert_pairs eq items first → after ≡ insert_pairs eq (items ++ (k, v) ∷ []) first
  extended_by items k v first now after inserted same =
      inserted ∙ ap (λ es. insert_pair eq es k v) same ∙ sym (insert_pairs_push eq items (k, v) first)
