-- Keys that ascend, and keys that are found by their order.
use Rattle.std.proofs.Common.{◌≡◌, ℕ, zero, suc, ◌+◌, ◌<◌, Bool, true, false, true≢false, cond, if◌then◌else◌, List, [], ◌∷◌, ◌++◌, length, get_or, position, Option, Some, None, option_map, Ordering, is_eq, is_lt, btree_map_len, refl, sym, ap, ◌∙◌, subst, length-append, arith}
use Rattle.std.proofs.lemmas.List.Quantifiers.{position-Some}
use Rattle.std.proofs.lemmas.Map.Keys.{sorted_from_all_adjacent}
use Rattle.std.specs.BTreeMap.{BTreeMap, get}
use Rattle.std.specs.Borrow.{Bor}
use Rattle.std.specs.Cmp.{IsTotalOrder}
use Rattle.std.specs.List.{AllByRecursion}
use Rattle.std.specs.List.Sorted.{IsStrictlySortedBy}
use Rattle.std.specs.Iterator.{Yields}
use Rattle.std.specs.Map.{keys_of}
use Rattle.std.specs.Vec.Iter.{into_iter_items, into_iter_steps}
use Rattle.std.specs.declared.cmp.Ordering.TheVariants.{Less, Equal, Greater}
use Rattle.std.specs.declared.vec.IntoIter.{IntoIter}
use Rattle.amqp_data.specs.Pairs.{insert_pair, insert_pairs, LacksKey, AreDistinct}
use Rattle.amqp_data.specs.KeyPositions.{key_position, key_positions, Indexes}
use Rattle.amqp_data.proofs.PairLemmas.{insert_new}
use Rattle.amqp_data.proofs.Searches.{AllFail, fail_by_position}

less_from_test : (o : Ordering) → true ≡ is_lt o → o ≡ Less
less_from_test Less h = refl
less_from_test Equal h = absurd (true≢false h)
less_from_test Greater h = absurd (true≢false h)

module _ {K V : Type 0} where
  get_or_keys : (es : List (K × V)) (i : ℕ) (d : K × V) → get_or (keys_of es) i d.0 ≡ (get_or es i d).0
  get_or_keys [] i d = refl
  get_or_keys (e ∷ es) zero d = refl
  get_or_keys (e ∷ es) (suc i) d = get_or_keys es i d

  length_keys : (es : List (K × V)) → length (keys_of es) ≡ length es
  length_keys [] = refl
  length_keys (e ∷ es) = ap suc (length_keys es)

module _ {K : Type 0} (eq : K → K → Bool) (cmp : K → K → Ordering) (total : IsTotalOrder cmp) (ties : (x y : K) → eq x y ≡ is_eq (cmp x y)) where
  less_lacks : (k : K) (ks : List K) → AllByRecursion (λ l. cmp k l ≡ Less) ks → LacksKey eq k ks
  less_lacks k [] all = tt
  less_lacks k (l ∷ ks) all = (ties k l ∙ ap is_eq all.0, less_lacks k ks all.1)

  sorted_distinct : (ks : List K) → IsStrictlySortedBy cmp ks → AreDistinct eq ks
  unfolding IsStrictlySortedBy
  sorted_distinct [] sorted = tt
  sorted_distinct (k ∷ ks) sorted = (less_lacks k ks sorted.0, sorted_distinct ks sorted.1)

  neighbours_distinct : {V : Type 0} (es : List (K × V)) (d : K × V) → ((i : ℕ) → i + 1 < length es → true ≡ is_lt (cmp (get_or es i d).0 (get_or es (i + 1) d).0))
      → AreDistinct eq (keys_of es)
  neighbours_distinct es d up =
      sorted_distinct (keys_of es) (sorted_from_all_adjacent total (keys_of es) d.0 (λ i below.
      let inside : i + 1 < length es = subst (λ n. i + 1 < n) (length_keys es) below in
      (λ j. cmp (get_or_keys es i d j) (get_or_keys es (i + 1) d j)) ∙ less_from_test _ (up i inside)))

  -- ascending keys are distinct
  pub ascending_distinct : {V : Type 0} (es : List (K × V)) → ((i : ℕ) (d : K × V) → i + 1 < length es → true ≡ is_lt (cmp (get_or es i d).0 (get_or es (i + 1) d).0))
      → AreDistinct eq (keys_of es)
  ascending_distinct [] up = tt
  ascending_distinct (e ∷ es) up = neighbours_distinct (e ∷ es) e (λ i. up i e)

module _ {K V : Type 0} (eq : K → K → Bool) (k : K) where
  place_none : (es : List (K × V)) → AllFail (λ e. eq k e.0) es → key_position eq k es ≡ None
  place_none [] fails = refl
  place_none (e ∷ es) fails = rw fails.0 (ap (option_map suc) (place_none es fails.1))

  place_first : (es : List (K × V)) (i : ℕ) (d : K × V) → i < length es → eq k (get_or es i d).0 ≡ true
      → ((j : ℕ) → j < i → eq k (get_or es j d).0 ≡ false) → key_position eq k es ≡ Some i
  place_first [] i d within is before = absurd (omega (arith, within))
  place_first (e ∷ es) zero d within is before = rw is
  place_first (e ∷ es) (suc i) d within is before =
      rw (before 0 (omega arith)) (ap (option_map suc) (place_first es i d (omega (arith, within)) is (λ j below. before (suc j) (omega (arith, below)))))

  position_or : (es : List (K × V)) (o : Option ℕ) → position (λ e. eq k e.0) es ≡ o → key_position eq k es ≡ o
  position_or [] o is = is
  position_or (e ∷ es) None is = place_none (e ∷ es) (fail_by_position (λ x. eq k x.0) (e ∷ es) is)
  position_or (e ∷ es) (Some i) is =
      let first = position-Some (λ x. eq k x.0) (e ∷ es) i e is in
      place_first (e ∷ es) i e first.0 first.1 first.2

  -- the place of a key is its position
  pub place_position : (es : List (K × V)) → key_position eq k es ≡ position (λ e. eq k e.0) es
  place_position es = position_or es (position (λ e. eq k e.0) es) refl

module _ {K V : Type 0} (eq : K → K → Bool) (k : K) (v : V) where
  -- inserting a key that is not present appends the entry
  new_last : (es : List (K × V)) → key_position eq k es ≡ None → insert_pair eq es k v ≡ es ++ (k, v) ∷ []
  new_last es none = sym (insert_new eq k es v (sym none ∙ place_position eq k es))

  keeps_step : (b : Bool) (o : Option ℕ) (e : K × V) (es : List (K × V)) (i : ℕ) (q : K) → cond b (Some 0) (option_map suc o) ≡ Some i
      → ((j : ℕ) → o ≡ Some j → key_position eq q (insert_pair eq es k v) ≡ key_position eq q es)
      → key_position eq q (if b then (e.0, v) ∷ es else e ∷ insert_pair eq es k v) ≡ key_position eq q (e ∷ es)
  keeps_step true o e es i q h rest = refl
  keeps_step false None e es i q h rest = cc
  keeps_step false (Some j) e es i q h rest = ap (λ p. cond (eq q e.0) (Some 0) (option_map suc p)) (rest j refl)

  -- inserting a key that is present changes no place
  place_present : (es : List (K × V)) (i : ℕ) (q : K) → key_position eq k es ≡ Some i → key_position eq q (insert_pair eq es k v) ≡ key_position eq q es
  place_present [] i q h = cc
  place_present (e ∷ es) i q h = keeps_step (eq k e.0) (key_position eq k es) e es i q h (λ j found. place_present es j q found)

  length_step : (b : Bool) (o : Option ℕ) (e : K × V) (es : List (K × V)) (i : ℕ) → cond b (Some 0) (option_map suc o) ≡ Some i
      → ((j : ℕ) → o ≡ Some j → length (insert_pair eq es k v) ≡ length es)
      → length (if b then (e.0, v) ∷ es else e ∷ insert_pair eq es k v) ≡ length (e ∷ es)
  length_step true o e es i h rest = refl
  length_step false None e es i h rest = cc
  length_step false (Some j) e es i h rest = ap suc (rest j refl)

  length_present : (es : List (K × V)) (i : ℕ) → key_position eq k es ≡ Some i → length (insert_pair eq es k v) ≡ length es
  length_present [] i h = cc
  length_present (e ∷ es) i h = length_step (eq k e.0) (key_position eq k es) e es i h (λ j found. length_present es j found)

module _ {K V : Type 0} (eq : K → K → Bool) (symmetric : (x y : K) → eq x y ≡ eq y x) (congruent : (x y z : K) → eq x y ≡ true → eq x z ≡ eq y z) (k : K) (v : V) where
  last_step : (a b c : Bool) (o p : Option ℕ) (x : K) (q : K) (n : ℕ) → eq k x ≡ a → eq q x ≡ b → eq k q ≡ c → cond a (Some 0) (option_map suc o) ≡ None
      → (r : Option ℕ) → (o ≡ None → r ≡ cond c (Some n) p)
      → cond b (Some 0) (option_map suc r) ≡ cond c (Some (suc n)) (cond b (Some 0) (option_map suc p))
  last_step true b c o p x q n ka qb kc h r rest = cc
  last_step false b c (Some j) p x q n ka qb kc h r rest = cc
  last_step false true true None p x q n ka qb kc h r rest = absurd (true≢false (sym qb ∙ sym (congruent k q x kc) ∙ ka))
  last_step false true false None p x q n ka qb kc h r rest = refl
  last_step false false true None p x q n ka qb kc h r rest = ap (option_map suc) (rest refl)
  last_step false false false None p x q n ka qb kc h r rest = ap (option_map suc) (rest refl)

  place_last : (es : List (K × V)) (q : K) → key_position eq k es ≡ None → key_position eq q (es ++ (k, v) ∷ []) ≡ cond (eq k q) (Some (length es)) (key_position eq q es)
  place_last [] q h = ap (λ b. cond b (Some 0) None) (symmetric q k)
  place_last (e ∷ es) q h =
      last_step (eq k e.0) (eq q e.0) (eq k q) (key_position eq k es) (key_position eq q es) e.0 q (length es) refl refl refl h (key_position eq q (es ++ (k, v) ∷ [])) (place_last es q)

-- entries that are inserted one after another
module _ {K V : Type 0} (eq : K → K → Bool) where
  pub places_push : (es : List (K × V)) (e : K × V) (done : List (K × V)) → key_positions eq (es ++ e ∷ []) done ≡ key_positions eq es done ++ key_position eq e.0 (insert_pairs eq es done) ∷ []
  places_push [] e done = refl
  places_push (x ∷ es) e done = ap (λ r. key_position eq x.0 done ∷ r) (places_push es e (insert_pair eq done x.0 x.1))

  pub places_at : (es : List (K × V)) (e : K × V) (rest done : List (K × V)) (d : Option ℕ) → get_or (key_positions eq (es ++ e ∷ rest) done) (length es) d ≡ key_position eq e.0 (insert_pairs eq es done)
  places_at [] e rest done d = refl
  places_at (x ∷ es) e rest done d = places_at es e rest (insert_pair eq done x.0 x.1) d

  pub places_length : (es done : List (K × V)) → length (key_positions eq es done) ≡ length es
  places_length [] done = refl
  places_length (x ∷ es) done = ap suc (places_length es (insert_pair eq done x.0 x.1))

-- the index after a key is found or added
module _ {K V : Type 0} (eq : K → K → Bool) (cmp : K → K → Ordering) (index : BTreeMap (Bor K) ℕ) (key : Bor K) where
  -- looking up a present key finds its place
  pub find_present : (i : ℕ) → get (λ a b. cmp a.now b.now) index key ≡ Some i
      → (done : List (K × V)) → Indexes eq cmp done index → (Some i ≡ key_position eq key.now done) × ((v : V) → Indexes eq cmp (insert_pair eq done key.now v) index)
  find_present i has done h =
      let p : key_position eq key.now done ≡ Some i = sym (h.0 key) ∙ has in
      (sym p, λ v. (λ q. h.0 q ∙ sym (place_present eq key.now v done i q.now p), h.1 ∙ sym (length_present eq key.now v done i p)))

  -- adding a new key keeps the places right
  pub find_new : ((x y : K) → eq x y ≡ eq y x) → ((x y z : K) → eq x y ≡ true → eq x z ≡ eq y z) → ((x y : K) → eq x y ≡ is_eq (cmp x y))
      → (new : BTreeMap (Bor K) ℕ) → get (λ a b. cmp a.now b.now) index key ≡ None
      → ((q : Bor K) → get (λ a b. cmp a.now b.now) new q ≡ cond (is_eq (cmp key.now q.now)) (Some (btree_map_len index)) (get (λ a b. cmp a.now b.now) index q))
      → btree_map_len new ≡ btree_map_len index + 1
      → (done : List (K × V)) → Indexes eq cmp done index → (None ≡ key_position eq key.now done) × ((v : V) → Indexes eq cmp (insert_pair eq done key.now v) new)
  find_new symmetric congruent ties new none up longer done h =
      let p : key_position eq key.now done ≡ None = sym (h.0 key) ∙ none in (
        sym p,
        λ v.
            let last = new_last eq key.now v done p in (
              λ q. up q ∙ (λ i. cond (sym (ties key.now q.now) i) (Some (h.1 i)) (h.0 q i))
                  ∙ sym (ap (key_position eq q.now) last ∙ place_last eq symmetric congruent key.now v done q.now p),
              longer ∙ ap (λ n. n + 1) h.1 ∙ sym (ap length last ∙ length-append done ((key.now, v) ∷ [])),
            ),
      )

taken_prefix : {X A : Type 0} (s : IntoIter X A) (xs : List X) (t : IntoIter X A) → Yields into_iter_steps s xs t → into_iter_items s ≡ xs ++ into_iter_items t
taken_prefix s [] t y = ap into_iter_items y
taken_prefix s (x ∷ xs) t y = y.1.0 ∙ ap (λ ys. x ∷ ys) (taken_prefix y.0 xs t y.2)

-- the items that an iterator of a vector has yielded, this item and the remaining items are all the items
pub taken_one : {X A : Type 0} (s : IntoIter X A) (xs : List X) (t : IntoIter X A) (x : X) (u : IntoIter X A) → Yields into_iter_steps s xs t → into_iter_steps t (Some x) u → into_iter_items s ≡ xs ++ x ∷ into_iter_items u
taken_one s xs t x u y z = taken_prefix s xs t y ∙ ap (λ r. xs ++ r) z.0
