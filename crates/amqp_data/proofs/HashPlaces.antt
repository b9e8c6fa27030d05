-- Keys that are found by order of their hashes.
use Rattle.std.proofs.Common.{◌≡◌, ℕ, zero, suc, ◌+◌, ◌<◌, Bool, true, false, true≢false, if◌then◌else◌, List, [], ◌∷◌, ◌++◌, length, get_or, slice_index, slice_set, position, None, refl, sym, ap, ◌∙◌, ◌⊎◌, inl, inr, subst, arith, rules}
use Rattle.std.proofs.lemmas.Bool.{cases_order}
use Rattle.std.proofs.lemmas.List.{get_or_default}
use Rattle.std.specs.BTreeMap.{BTreeMap}
use Rattle.std.specs.Global.{Global}
use Rattle.std.specs.Hash.{HashWrites}
use Rattle.std.specs.List.{IsAmong}
use Rattle.std.specs.Ordering.{is_eq, nat_cmp}
use Rattle.std.specs.Prelude.{Vec}
use Rattle.amqp_data.specs.Index.{IsIndexed}
use Rattle.amqp_data.proofs.IndexLemmas.{none_position, indexed_kept}
use Rattle.amqp_data.proofs.PairLemmas.{distinct_push}
use Rattle.amqp_data.specs.SortedHashes.{AddsPosition, ArePlaced, hash_of, positions}

module _ {K V : Type 0} (eq : K → K → Bool) (k : K) (es : List (K × V)) (found : List ℕ) where
  -- The first n positions are those of other keys.
  abbrev pub AreOthers : ℕ → Type 0
  AreOthers n = (j : ℕ) (d : K × V) → j < n → slice_index found j < length es → eq k (get_or es (slice_index found j) d).0 ≡ false

  is_other : (b : Bool) (i : ℕ) (d : K × V) → eq k (get_or es i d).0 ≡ b → i < length es → AreOthers (length found) → (b ≡ true → IsAmong found i) → b ≡ false
  is_other false i d is within others among = refl
  is_other true i d is within others among =
      let (j, (below, place)) = among refl in
      let here : slice_index found j ≡ i = get_or_default found j 0 i below ∙ sym place in
      absurd (true≢false (sym is ∙ ap (λ p. eq k (get_or es p d).0) (sym here) ∙ others j d below (omega (arith, here, within))))

  -- If all positions are those of other keys, the key has none.
  pub none_among : AreOthers (length found) → ((i : ℕ) (d : K × V) → i < length es → eq k (get_or es i d).0 ≡ true → IsAmong found i) → None ≡ position (λ e. eq k e.0) es
  none_among others among = none_position eq (λ x. []) k 1 0 es (record {
    within = omega arith;
    here = λ p is. absurd (omega (arith, is));
    apart = λ i d from within. is_other (eq k (get_or es i d).0) i d refl within others (among i d within);
  })

module _ {K V : Type 0} (eq : K → K → Bool) (input : K → HashWrites) (places : BTreeMap ℕ (Vec ℕ Global)) (es : List (K × V)) where
  -- The position of an equal key is among those of the key's hash.
  pub equal_among : ((x y : K) → eq x y ≡ true → input x ≡ input y) → ArePlaced eq input places es → (k : K) (found : List ℕ) → found ≡ positions places (hash_of (input k))
      → (i : ℕ) (d : K × V) → i < length es → eq k (get_or es i d).0 ≡ true → IsAmong found i
  equal_among respects placed k found is i d within equal =
      let e = (get_or es i d).0 in
      let same : positions places (hash_of (input e)) ≡ found = ap (λ w. positions places (hash_of w)) (sym (respects k e equal)) ∙ sym is in
      subst (λ ps. IsAmong ps i) same (placed.placed i d within)

module _ {K V : Type 0} where
  -- A key stays where the value of an entry is replaced.
  key_kept : (es : List (K × V)) (at i : ℕ) (e d : K × V) (v : V) → e ≡ get_or es at e → (get_or (slice_set es at (e.0, v)) i d).0 ≡ (get_or es i d).0
  key_kept [] at i e d v is = refl
  key_kept (x ∷ es) zero zero e d v is = ap (λ (y : K × V). y.0) is
  key_kept (x ∷ es) zero (suc i) e d v is = refl
  key_kept (x ∷ es) (suc at) zero e d v is = refl
  key_kept (x ∷ es) (suc at) (suc i) e d v is = key_kept es at i e d v is

  length_kept : (es : List (K × V)) (at : ℕ) (e : K × V) → length (slice_set es at e) ≡ length es
  length_kept [] at e = refl
  length_kept (x ∷ es) zero e = refl
  length_kept (x ∷ es) (suc at) e = ap suc (length_kept es at e)

module _ {X : Type 0} where
  at_before : (xs : List X) (x d : X) (i : ℕ) → i < length xs → get_or (xs ++ x ∷ []) i d ≡ get_or xs i d
  at_before [] x d i within = absurd (omega (arith, within))
  at_before (y ∷ xs) x d zero within = refl
  at_before (y ∷ xs) x d (suc i) within = at_before xs x d i (omega (arith, within))

  at_last : (xs : List X) (x d : X) → get_or (xs ++ x ∷ []) (length xs) d ≡ x
  at_last [] x d = refl
  at_last (y ∷ xs) x d = at_last xs x d

  length_more : (xs : List X) (x : X) → length (xs ++ x ∷ []) ≡ length xs + 1
  length_more [] x = refl
  length_more (y ∷ xs) x = omega (arith, length_more xs x)

-- Positions with one more.
among_before : (ps : List ℕ) (p i : ℕ) → IsAmong ps i → IsAmong (ps ++ p ∷ []) i
among_before ps p i (j, (below, place)) = (j, (omega (arith, below, length_more ps p), place ∙ sym (at_before ps p i j below)))

among_last : (ps : List ℕ) (p : ℕ) → IsAmong (ps ++ p ∷ []) p
among_last ps p = (length ps, (omega (arith, length_more ps p), sym (at_last ps p p)))

among_either : (b : Bool) (ps : List ℕ) (p i : ℕ) → IsAmong ps i → IsAmong (if b then ps ++ p ∷ [] else ps) i
among_either true ps p i among = among_before ps p i among
among_either false ps p i among = among

is_same : (n : ℕ) → is_eq (nat_cmp n n) ≡ true
is_same n = search rules

module _ {K V : Type 0} (eq : K → K → Bool) (input : K → HashWrites) (places : BTreeMap ℕ (Vec ℕ Global)) (es : List (K × V)) (placed : ArePlaced eq input places es) where
  -- Where the value of an entry is replaced, all stay placed.
  pub placed_kept : (at : ℕ) (e : K × V) (v : V) → e ≡ get_or es at e → ArePlaced eq input places (slice_set es at (e.0, v))
  placed_kept at e v is =
      let unindexed : IsIndexed eq input [] [] es = record { distinct = placed.distinct; chained = λ some. absurd (omega (arith, some)) } in
      record {
        distinct = (indexed_kept eq input [] [] es at e v unindexed is).distinct;
        placed = λ i d within. subst (λ k. IsAmong (positions places (hash_of (input k))) i) (sym (key_kept es at i e d v is)) (placed.placed i d (omega (arith, within, length_kept es at (e.0, v))));
      }

  -- Where an entry with a new key is appended, and its position added, all are placed.
  module _ (symmetric : (x y : K) → eq x y ≡ eq y x) (new : BTreeMap ℕ (Vec ℕ Global)) (k : K) (v : V) (added : AddsPosition (hash_of (input k)) (length es) places new) where
    placed_at : (i : ℕ) (d : K × V) → (i ≡ length es) ⊎ ((i < length es) ⊎ (length es < i)) → i < length es + 1 → IsAmong (positions new (hash_of (input (get_or (es ++ (k, v) ∷ []) i d).0))) i
    placed_at i d (inl last) within =
        let h = hash_of (input k) in
        let here : positions new h ≡ positions places h ++ length es ∷ [] = added h ∙ ap (λ b. if b then positions places h ++ length es ∷ [] else positions places h) (is_same h) in
        rw last (rw (at_last es (k, v) d) (rw here (among_last (positions places h) (length es))))
    placed_at i d (inr (inl before)) within =
        let h = hash_of (input (get_or es i d).0) in
        rw (at_before es (k, v) d i before) (rw (added h) (among_either (is_eq (nat_cmp (hash_of (input k)) h)) (positions places h) (length es) i (placed.placed i d before)))
    placed_at i d (inr (inr after)) within = absurd (omega (arith, after, within))

    pub placed_push : None ≡ position (λ e. eq k e.0) es → ArePlaced eq input new (es ++ (k, v) ∷ [])
    placed_push none = record {
      distinct = distinct_push eq symmetric es k v placed.distinct none;
      placed = λ i d within. placed_at i d (cases_order i (length es)) (omega (arith, within, length_more es (k, v)));
    }
