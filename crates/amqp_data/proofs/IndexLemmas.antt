-- A search along the entries of one bucket, from the last to the first.
use Rattle.std.proofs.Common.{◌≡◌, ℕ, zero, suc, ◌<◌, ◌≤◌, Bool, true, false, List, [], ◌∷◌, ◌++◌, length, get_or, map, slice_index, slice_set, position, Option, Some, None, refl, sym, ap, ◌∙◌, ◌⊎◌, inl, inr, subst, true≢false, arith}
use Rattle.std.proofs.lemmas.Bool.{cases_order}
use Rattle.std.proofs.lemmas.Bool.Decides.{nat_tests}
use Rattle.std.proofs.lemmas.List.{get_or-map, length-map, map-append}
use Rattle.std.specs.Bool.{OnTrue}
use Rattle.std.specs.Cmp.{IsEquivalence}
use Rattle.std.specs.Hash.{HashWrites}
use Rattle.std.specs.List.{position_or_len}
use Rattle.std.specs.Map.{keys_of}
use Rattle.amqp_data.specs.Pairs.{LacksKey, AreDistinct}
use Rattle.amqp_data.specs.Index.{bucket_of, buckets, IsLast, IsChained, IsIndexed}
use Rattle.amqp_data.proofs.PairLemmas.{distinct_push}

module _ {X : Type 0} (p : X → Bool) where
  place_is : (xs : List X) (i : ℕ) (d : X) → i < length xs → p (get_or xs i d) ≡ true
      → ((j : ℕ) → j < i → p (get_or xs j d) ≡ false) → position_or_len p xs ≡ i
  place_is [] i d within passes fails = absurd (omega (arith, within))
  place_is (x ∷ xs) zero d within passes fails = rw passes
  place_is (x ∷ xs) (suc i) d within passes fails =
      let rest = place_is xs i d (omega (arith, within)) passes (λ j below. fails (suc j) (omega (arith, below))) in
      rw (fails 0 (omega arith)) (omega (arith, rest))

  no_place : (xs : List X) → ((j : ℕ) (d : X) → j < length xs → p (get_or xs j d) ≡ false) → position_or_len p xs ≡ length xs
  no_place [] fails = refl
  no_place (x ∷ xs) fails =
      let rest = no_place xs (λ j d below. fails (suc j) d (omega (arith, below))) in
      rw (fails 0 x (omega arith)) (omega (arith, rest))

  pub position_is : (xs : List X) (i : ℕ) (d : X) → i < length xs → p (get_or xs i d) ≡ true
      → ((j : ℕ) → j < i → p (get_or xs j d) ≡ false) → Some i ≡ position p xs
  position_is xs i d within passes fails = rw (place_is xs i d within passes fails) (grind (arith, nat_tests))

  pub no_position : (xs : List X) → ((j : ℕ) (d : X) → j < length xs → p (get_or xs j d) ≡ false) → None ≡ position p xs
  no_position xs fails = rw (no_place xs fails) (grind (arith, nat_tests))

not_both : {K : Type 0} (eq : K → K → Bool) (laws : IsEquivalence eq) (b : Bool) (k x y : K) → eq k x ≡ b → eq k y ≡ true → eq x y ≡ false → eq k x ≡ false
not_both eq laws true k x y is equal unequal = absurd (true≢false (sym equal ∙ laws.congr k x y is ∙ unequal))
not_both eq laws false k x y is equal unequal = is

other_bucket : {K : Type 0} (eq : K → K → Bool) (input : K → HashWrites) (respects : (x y : K) → eq x y ≡ true → input x ≡ input y)
    (t : Bool) (count : ℕ) (k x : K) → eq k x ≡ t → (bucket_of count (input x) ≡ bucket_of count (input k) → ⊥) → eq k x ≡ false
other_bucket eq input respects true count k x is apart = absurd (apart (ap (bucket_of count) (sym (respects k x is))))
other_bucket eq input respects false count k x is apart = is

get_or_default : {X : Type 0} (xs : List X) (i : ℕ) (e d : X) → i < length xs → e ≡ get_or xs i e → e ≡ get_or xs i d
get_or_default [] i e d within is = absurd (omega (arith, within))
get_or_default (x ∷ xs) zero e d within is = is
get_or_default (x ∷ xs) (suc i) e d within is = get_or_default xs i e d (omega (arith, within)) is

module _ {K V : Type 0} (eq : K → K → Bool) where
  lacks_at : (x : K) (es : List (K × V)) (i : ℕ) (d : K × V) → LacksKey eq x (keys_of es) → i < length es → eq x (get_or es i d).0 ≡ false
  lacks_at x [] i d lacks within = absurd (omega (arith, within))
  lacks_at x (e ∷ es) zero d lacks within = lacks.0
  lacks_at x (e ∷ es) (suc i) d lacks within = lacks_at x es i d lacks.1 (omega (arith, within))

  unequal_at : (es : List (K × V)) (i j : ℕ) (d : K × V) → AreDistinct eq (keys_of es) → i < length es → j < i
      → eq (get_or es j d).0 (get_or es i d).0 ≡ false
  unequal_at [] i j d distinct within below = absurd (omega (arith, within))
  unequal_at (e ∷ es) zero j d distinct within below = absurd (omega (arith, below))
  unequal_at (e ∷ es) (suc i) zero d distinct within below = lacks_at e.0 es i d distinct.0 (omega (arith, within))
  unequal_at (e ∷ es) (suc i) (suc j) d distinct within below =
      unequal_at es i j d distinct.1 (omega (arith, within)) (omega (arith, below))

  -- an entry with an equal key is the first one
  pub found_position : IsEquivalence eq → (k : K) (es : List (K × V)) (i : ℕ) (e : K × V) → AreDistinct eq (keys_of es) → i < length es
      → e ≡ get_or es i e → eq k e.0 ≡ true → Some i ≡ position (λ x. eq k x.0) es
  found_position laws k es i e distinct within is equal =
      let here = subst (λ (x : K × V). eq k x.0 ≡ true) is equal in
      position_is (λ x. eq k x.0) es i e within here
      (λ j below. not_both eq laws (eq k (get_or es j e).0) k (get_or es j e).0 (get_or es i e).0 refl here (unequal_at es i j e distinct within below))

module _ {K V : Type 0} (eq : K → K → Bool) (input : K → HashWrites) where
  -- what is known once the entries from the n-th on that are in the bucket b of k have been searched
  pub record IsSearched (k : K) (count b : ℕ) (es : List (K × V)) (n : ℕ) : Type 0 where
    pub within : n ≤ length es
    pub here : (p : ℕ) → n ≡ suc p → slice_index (buckets input count es) p ≡ b
    pub apart : (j : ℕ) (d : K × V) → n ≤ j → j < length es → eq k (get_or es j d).0 ≡ false

  buckets_length : (count : ℕ) (es : List (K × V)) → length (buckets input count es) ≡ length es
  buckets_length count es = length-map es (λ (e : K × V). bucket_of count (input e.0))

  -- once all are searched, no key is equal
  pub none_position : (k : K) (count b : ℕ) (es : List (K × V)) → IsSearched k count b es 0 → None ≡ position (λ e. eq k e.0) es
  none_position k count b es searched = no_position (λ e. eq k e.0) es (λ j d below. searched.apart j d (omega arith) below)

module _ {K V : Type 0} (eq : K → K → Bool) (input : K → HashWrites) (respects : (x y : K) → eq x y ≡ true → input x ≡ input y) where
  -- an entry that is in another bucket has another key
  apart_at : (k : K) (count b : ℕ) (es : List (K × V)) (j : ℕ) (d : K × V) → b ≡ bucket_of count (input k) → j < length es
      → (slice_index (buckets input count es) j ≡ b → ⊥) → eq k (get_or es j d).0 ≡ false
  apart_at k count b es j d is below apart =
      let x = (get_or es j d).0 in
      let place = get_or-map (λ (e : K × V). bucket_of count (input e.0)) es j d 0 below in
      other_bucket eq input respects (eq k x) count k x refl (λ same. apart (place ∙ same ∙ sym is))

  -- at the last entry of the bucket
  pub searched_none : (k : K) (count b : ℕ) (es : List (K × V)) (heads earlier : List ℕ) → IsChained heads earlier (buckets input count es)
      → b < length heads → b ≡ bucket_of count (input k) → IsSearched eq input k count b es (slice_index heads b)
  searched_none k count b es heads earlier chained within is =
      let last = chained.heads_last b within in
      let long = buckets_length eq input count es in
      record {
        within = omega (arith, last.within, long);
        here = last.here;
        apart = λ j d from below. apart_at k count b es j d is below (last.later j from (omega (arith, below, long)));
      }

  unequal_other : (k : K) (count b : ℕ) (es : List (K × V)) (m at j : ℕ) (e d : K × V) → b ≡ bucket_of count (input k)
      → IsSearched eq input k count b es (suc at) → e ≡ get_or es at e → eq k e.0 ≡ false → IsLast (buckets input count es) b at m
      → m ≤ j → j < length es → (j ≡ at) ⊎ ((j < at) ⊎ (at < j)) → eq k (get_or es j d).0 ≡ false
  unequal_other k count b es m at j e d is searched place unequal last from within (inl same) =
      let one : get_or es j d ≡ e = ap (λ i. get_or es i d) same ∙ sym (get_or_default es at e d (omega (arith, within, same)) place) in
      ap (λ (x : K × V). eq k x.0) one ∙ unequal
  unequal_other k count b es m at j e d is searched place unequal last from within (inr (inl below)) =
      apart_at k count b es j d is within (last.later j from below)
  unequal_other k count b es m at j e d is searched place unequal last from within (inr (inr above)) =
      searched.apart j d (omega (arith, above)) within

  -- at the entry before it in the bucket
  pub searched_one : (k : K) (count b : ℕ) (es : List (K × V)) (heads earlier : List ℕ) (at : ℕ) (e : K × V)
      → IsChained heads earlier (buckets input count es) → b ≡ bucket_of count (input k) → IsSearched eq input k count b es (suc at)
      → e ≡ get_or es at e → eq k e.0 ≡ false → IsSearched eq input k count b es (slice_index earlier at)
  searched_one k count b es heads earlier at e chained is searched place unequal =
      let long = buckets_length eq input count es in
      let below : at < length es = omega (arith, searched.within) in
      let bucket = searched.here at refl in
      let last = subst (λ (c : ℕ). IsLast (buckets input count es) c at (slice_index earlier at)) bucket (chained.earlier_last at (omega (arith, below, long))) in
      record {
        within = omega (arith, last.within, below);
        here = last.here;
        apart = λ j d from within. unequal_other k count b es (slice_index earlier at) at j e d is searched place unequal last from within (cases_order j at);
      }

module _ {K V R : Type 0} (g : K → R) where
  -- what is made of the keys stays when a value is replaced
  map_kept : (es : List (K × V)) (i : ℕ) (e : K × V) (v : V) → e ≡ get_or es i e → map (λ x. g x.0) (slice_set es i (e.0, v)) ≡ map (λ x. g x.0) es
  map_kept [] i e v is = refl
  map_kept (x ∷ es) zero e v is = ap (λ (y : K × V). g y.0 ∷ map (λ x. g x.0) es) is
  map_kept (x ∷ es) (suc i) e v is = ap (λ (rs : List R). g x.0 ∷ rs) (map_kept es i e v is)

module _ {K V : Type 0} (eq : K → K → Bool) (input : K → HashWrites) where
  pub indexed_kept : (heads earlier : List ℕ) (es : List (K × V)) (i : ℕ) (e : K × V) (v : V) → IsIndexed eq input heads earlier es → e ≡ get_or es i e
      → IsIndexed eq input heads earlier (slice_set es i (e.0, v))
  indexed_kept heads earlier es i e v indexed is = record {
    distinct = subst (AreDistinct eq) (sym (map_kept (λ (k : K). k) es i e v is)) indexed.distinct;
    chained = λ some. subst (IsChained heads earlier) (sym (map_kept (λ (k : K). bucket_of (length heads) (input k)) es i e v is)) (indexed.chained some);
  }

-- a position that a search gave, in the same list
pub place : {X : Type 0} (p : X → Bool) (ds es : List X) (r a : Option ℕ) → r ≡ position p ds → r ≡ a → ds ≡ es → a ≡ position p es
place p ds es r a is same list = sym same ∙ is ∙ ap (position p) list

-- a new key has been appended, and the index is made for the longer list
pub indexed_push : {K V : Type 0} (eq : K → K → Bool) (input : K → HashWrites) → ((x y : K) → eq x y ≡ eq y x)
    → (heads earlier new_heads new_earlier : List ℕ) (es fs : List (K × V)) (k : K) (v : V) (b : ℕ)
    → IsIndexed eq input heads earlier es → None ≡ position (λ e. eq k e.0) es → fs ≡ es ++ (k, v) ∷ []
    → (0 < length heads → b ≡ bucket_of (length heads) (input k))
    → ((es : List (K × V)) (e : K × V) → fs ≡ es ++ e ∷ []
    → (0 < length heads → (b ≡ bucket_of (length heads) (input e.0)) × IsChained heads earlier (buckets input (length heads) es))
    → 0 < length new_heads → IsChained new_heads new_earlier (buckets input (length new_heads) fs))
    → IsIndexed eq input new_heads new_earlier fs
indexed_push eq input symmetric heads earlier new_heads new_earlier es fs k v b indexed none is bucket added = record {
  distinct = subst (λ (xs : List (_ × _)). AreDistinct eq (keys_of xs)) (sym is) (distinct_push eq symmetric es k v indexed.distinct none);
  chained = added es (k, v) is (λ some. (bucket some, indexed.chained some));
}

-- an entry with a new key has been added to the index, which has as many buckets as before
pub indexed_next : {K V : Type 0} (eq : K → K → Bool) (input : K → HashWrites) → ((x y : K) → eq x y ≡ eq y x)
    → (heads earlier new_heads new_earlier : List ℕ) (es : List (K × V)) (e : K × V) (b : ℕ)
    → IsIndexed eq input heads earlier es → None ≡ position (λ x. eq e.0 x.0) es → length new_heads ≡ length heads
    → 0 < length heads → b ≡ bucket_of (length heads) (input e.0)
    → ((bs : List ℕ) → IsChained heads earlier bs → IsChained new_heads new_earlier (bs ++ b ∷ []))
    → IsIndexed eq input new_heads new_earlier (es ++ e ∷ [])
indexed_next eq input symmetric heads earlier new_heads new_earlier es e b indexed none same some is added =
    let bucket = λ (x : _ × _). bucket_of (length heads) (input x.0) in
    let one : map bucket es ++ b ∷ [] ≡ buckets input (length heads) (es ++ e ∷ []) =
    ap (λ c. map bucket es ++ c ∷ []) is ∙ sym (map-append bucket es (e ∷ [])) in
    record {
      distinct = distinct_push eq symmetric es e.0 e.1 indexed.distinct none;
      chained = λ more. subst (λ (n : ℕ). IsChained new_heads new_earlier (buckets input n (es ++ e ∷ []))) (sym same)
          (subst (IsChained new_heads new_earlier) one (added (buckets input (length heads) es) (indexed.chained some)));
    }

pub if_true : {P : Type 0} (b : Bool) → (b ≡ true → P) → OnTrue b P
if_true true f = f refl
if_true false f = tt

pub unless_true : (P : Type 0) (b : Bool) → b ≡ false → OnTrue b P
unless_true P true is = absurd (true≢false is)
unless_true P false is = tt

pub on_true : (b : Bool) (P : Type 0) → b ≡ true → OnTrue b P → P
on_true true P is p = p
on_true false P is p = absurd (true≢false (sym is))
