-- The collected entries, as trees.
use Rattle.std.specs.Prelude.{List, [], ◌∷◌}
use Rattle.amqp_ser.specs.Tree.{Pairs, no_pairs}
use Rattle.amqp_value.specs.Image.{insert_tree}
use Rattle.amqp_value.specs.TreeOf.{tree_of}
use Rattle.amqp_value.specs.declared.value.Value.{Value}
use Rattle.amqp_value.specs.declared.map_builder.MapBuilder.{MapBuilder}

-- The entries inserted in order into the entries `done`: a repeated key keeps its position and gets
-- the new value, and a new key is appended.
abbrev pub insert_all : List (Value × Value) → Pairs → Pairs
insert_all [] done = done
insert_all (e ∷ es) done = insert_all es (insert_tree done (tree_of e.0) (tree_of e.1))

-- The collected entries: each key once, at its first position and with its last value.
abbrev pub collected_pairs : MapBuilder → Pairs
collected_pairs g = insert_all g.pairs.items no_pairs
