-- The keys and the values that an iterator over a map has not yielded yet.
use Rattle.std.specs.Prelude.{List}
use Rattle.std.specs.Map.{keys_of, values_of}
use Rattle.std.specs.Slice.Iter.{iter_mut_rest}
use Rattle.amqp_data.specs.declared.ordered_map.lends.IterMut.{IterMut}
use Rattle.amqp_data.specs.declared.ordered_map.lends.ValuesMut.{ValuesMut}
use Rattle.amqp_data.specs.declared.ordered_map.reads.Keys.{Keys}
use Rattle.amqp_data.specs.declared.ordered_map.reads.Values.{Values}
use Rattle.amqp_data.specs.Pairs.{entries_left}

-- the keys that an iterator has not yielded yet
abbrev pub keys_left : {K V : Type 0} → Keys K V → List K
keys_left iter = keys_of (entries_left iter.rest)

-- the values that an iterator has not yielded yet
abbrev pub values_left : {K V : Type 0} → Values K V → List V
values_left iter = values_of (entries_left iter.rest)

-- the entries that an iterator has not lent yet
abbrev pub entries_to_lend : {K V : Type 0} → IterMut K V → List (K × V)
entries_to_lend iter = iter_mut_rest iter.rest

-- the values that an iterator has not lent yet
abbrev pub values_to_lend : {K V : Type 0} → ValuesMut K V → List V
values_to_lend iter = values_of (entries_to_lend iter.rest)
