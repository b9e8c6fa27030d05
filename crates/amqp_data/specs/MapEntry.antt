-- The entry of one key in a map: the map, the key and its value; and the entries of the map after a
-- mutable borrow of that value ends.
use Rattle.std.specs.Prelude.{◌≡◌, Bool, List, Option, Result}
use Rattle.std.specs.Borrow.{Fml, LendsSoOk, MutBor, RattleType}
use Rattle.std.specs.Map.{lookup}
use Rattle.std.specs.declared.cmp.PartialEq as equal
use Rattle.std.specs.declared.hash.Hash as hash
use Rattle.amqp_data.specs.Pairs.{entries_of, insert_pair}
use Rattle.amqp_data.specs.declared.ordered_map.OrderedMap.{OrderedMap}
use Rattle.amqp_data.specs.declared.ordered_map.entry.Entry.{Entry}
use Rattle.amqp_data.specs.contracts.ordered_map.OrderedMap.{the_row}

module _ {K V : Type 0} {h : hash.Ghosts K} {g : equal.Ghosts K} where
  -- the reference to the map
  abbrev pub entry_map : Entry K V h g → MutBor (OrderedMap K V)
  entry_map e = e.map

  -- the key that was passed
  abbrev pub entry_key : Entry K V h g → K
  entry_key e = e.key

  module _ (eq : K → K → Bool) (e : Entry K V h g) where
    -- the value of the key, if it is present
    abbrev pub entry_value : Option V
    entry_value = lookup (eq e.key) (entries_of e.map.now)

    -- the entries after the key is inserted with a value
    abbrev pub entry_written : V → List (K × V)
    entry_written w = insert_pair eq (entries_of e.map.now) e.key w

module _ (K V : RattleType) {h : hash.Ghosts K.Denot} {g : equal.Ghosts K.Denot} where
  -- the key has the final value of the reference; without a reference the map is unchanged
  abbrev pub lends_entry : {E : Type 0} → (K.Denot → K.Denot → Bool) → Entry K.Denot V.Denot h g → Result (MutBor V.Denot) E → Fml
  lends_entry eq e value =
      LendsSoOk (the_row K V) V e.map value
      (λ after w. entries_of after ≡ entry_written eq e w)
      (λ after. entries_of after ≡ entries_of e.map.now)
