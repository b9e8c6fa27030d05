-- The entries of a map after a mutable borrow of one of its values ends.
use Rattle.std.specs.Prelude.{◌≡◌, ℕ, Bool, List, [], ◌∷◌, ◌++◌, zero, suc, Option, OnSome, Result}
use Rattle.std.specs.Borrow.{Fml, LendsSo, LendsSoOk, MutBor, RattleType}
use Rattle.std.specs.Map.{set_value}
use Rattle.amqp_data.specs.Pairs.{entries_of}
use Rattle.amqp_data.specs.declared.ordered_map.OrderedMap.{OrderedMap}
use Rattle.amqp_data.specs.contracts.ordered_map.OrderedMap.{the_row}

-- the first key that passes the test has the final value of the reference; without a reference the
-- map is unchanged
module _ (K V : RattleType) (test : K.Denot → Bool) (map : MutBor (OrderedMap K.Denot V.Denot)) where
  abbrev pub lends_value : Option (MutBor V.Denot) → Fml
  lends_value value =
      LendsSo (the_row K V) V map value
      (λ after w. OnSome value (entries_of after ≡ set_value test (entries_of map.now) w))
      (λ after. entries_of after ≡ entries_of map.now)

-- the entries with another value at a position
abbrev pub with_value_at : {K V : Type 0} → List (K × V) → ℕ → V → List (K × V)
with_value_at [] at w = []
with_value_at (e ∷ es) zero w = (e.0, w) ∷ es
with_value_at (e ∷ es) (suc at) w = e ∷ with_value_at es at w

-- the entry at the position has the final value of the reference; without a reference the map is
-- unchanged
module _ (K V : RattleType) (at : ℕ) (map : MutBor (OrderedMap K.Denot V.Denot)) where
  abbrev pub lends_value_at : Option (MutBor V.Denot) → Fml
  lends_value_at value =
      LendsSo (the_row K V) V map value
      (λ after w. OnSome value (entries_of after ≡ with_value_at (entries_of map.now) at w))
      (λ after. entries_of after ≡ entries_of map.now)

-- an appended entry has the final value of the reference; without a reference the map is unchanged
module _ (K V : RattleType) (map : MutBor (OrderedMap K.Denot V.Denot)) where
  abbrev pub lends_pushed : {E : Type 0} → K.Denot → Result (MutBor V.Denot) E → Fml
  lends_pushed key value =
      LendsSoOk (the_row K V) V map value
      (λ after w. entries_of after ≡ entries_of map.now ++ (key, w) ∷ [])
      (λ after. entries_of after ≡ entries_of map.now)
