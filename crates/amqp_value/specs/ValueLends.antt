-- A value after a mutable borrow of its content ends.
use Rattle.std.specs.Prelude.{◌≡◌, ℕ, List, Option, OnSome, IfNone, Vec}
use Rattle.std.specs.Borrow.{Fml, LendsIf, LendsSo, MutBor}
use Rattle.std.specs.Global.{Global}
use Rattle.std.specs.Map.{set_value}
use Rattle.std.specs.contracts.alloc.Global as global
use Rattle.std.specs.contracts.impls.GlobalAllocator.TheImpl.{ghosts}
use Rattle.std.specs.contracts.vec.Vec as vec
use Rattle.amqp_data.specs.declared.array.Array.{Array}
use Rattle.amqp_data.specs.declared.ordered_map.OrderedMap.{OrderedMap}
use Rattle.amqp_data.specs.Pairs.{entries_of}
use Rattle.amqp_data.specs.contracts.array.Array as array
use Rattle.amqp_data.specs.contracts.ordered_map.OrderedMap as ordered_map
use Rattle.amqp_value.specs.Accessors.{has_text}
use Rattle.amqp_value.specs.declared.value.Value.{Value}
use Rattle.amqp_value.specs.declared.value.Value.TheVariants as kind
use Rattle.amqp_value.specs.contracts.value.Value.{the_row}

-- The value has the final content of the reference; without a reference it is unchanged.
module _ (value : MutBor Value) where
  abbrev pub lends_list : Option (MutBor (Vec Value Global)) → Fml
  lends_list items = LendsIf the_row (vec.the_row the_row global.the_row ghosts) value items (λ list. kind.List list) value.now

  abbrev pub lends_array : Option (MutBor (Array Value)) → Fml
  lends_array elements = LendsIf the_row (array.the_row the_row) value elements (λ array. kind.Array array) value.now

  abbrev pub lends_map : Option (MutBor (OrderedMap Value Value)) → Fml
  lends_map entries = LendsIf the_row (ordered_map.the_row the_row the_row) value entries (λ map. kind.Map map) value.now

-- The first key with this text has the final value of the reference; without a reference nothing is
-- changed.
abbrev pub lends_text : MutBor (OrderedMap Value Value) → List ℕ → Option (MutBor Value) → Fml
lends_text entries text value =
    LendsSo (ordered_map.the_row the_row the_row) the_row entries value
    (λ after w. OnSome value (entries_of after ≡ set_value (has_text text) (entries_of entries.now) w))
    (λ after. IfNone value (after ≡ entries.now))
