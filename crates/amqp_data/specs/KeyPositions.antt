-- The position of each key among the entries that are inserted before it, for keys that are found by their order.
use Rattle.std.specs.Prelude.{◌≡◌, ℕ, suc, Bool, cond, List, [], ◌∷◌, length, Option, None, Some, option_map}
use Rattle.std.specs.BTreeMap.{BTreeMap, get, btree_map_len}
use Rattle.std.specs.Borrow.{Bor}
use Rattle.std.specs.declared.cmp.Ordering.{Ordering}
use Rattle.amqp_data.specs.Pairs.{insert_pair}

module _ {K V : Type 0} (eq : K → K → Bool) where
  -- the position of the first entry whose key equals k
  abbrev pub key_position : K → List (K × V) → Option ℕ
  key_position k [] = None
  key_position k (e ∷ es) = cond (eq k e.0) (Some 0) (option_map suc (key_position k es))

  -- the position of the key of each entry when the entry is inserted, or none for a new key
  abbrev pub key_positions : List (K × V) → List (K × V) → List (Option ℕ)
  key_positions [] done = []
  key_positions (e ∷ es) done = key_position e.0 done ∷ key_positions es (insert_pair eq done e.0 e.1)

  -- the index has the position of each key of the entries, and as many keys as there are entries
  abbrev pub Indexes : (K → K → Ordering) → List (K × V) → BTreeMap (Bor K) ℕ → Type 0
  Indexes cmp done index = ((q : Bor K) → get (λ a b. cmp a.now b.now) index q ≡ key_position q.now done) × (btree_map_len index ≡ length done)
