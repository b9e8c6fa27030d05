use Rattle.std.proofs.Common.{map}
use Rattle.amqp_data.specs.Items.{array_items, transparent_items}
use Rattle.amqp_ser.proofs.Carried.{whole_list, whole_array, whole_transparent}
use Rattle.amqp_ser.proofs.laws.trees_of_carried_types.trees_of_sequences.Goals as goal

pub returns-clause-vec : goal.returns-clause-vec
returns-clause-vec g c = λ v. whole_list (map g.T.Serialize.tree v.items)

pub returns-clause-fixed_length : goal.returns-clause-fixed_length
returns-clause-fixed_length g c = whole_list (map g.T.Serialize.tree c.args.array.now)

pub returns-clause-array : goal.returns-clause-array
returns-clause-array g c = λ a. whole_array (map g.T.Serialize.tree (array_items a))

pub returns-clause-transparent : goal.returns-clause-transparent
returns-clause-transparent g c = λ v. whole_transparent (map g.T.Serialize.tree (transparent_items v))
