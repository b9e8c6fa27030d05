-- The tree of an untyped value, which has the same kinds at every depth (AMQP 1.0 part 1, section
-- 1.6).
use Rattle.std.specs.Prelude.{List, [], ◌∷◌, map, string_bytes}
use Rattle.amqp_data.specs.Fixed.{f32_bits, f64_bits, dec32_bytes, dec64_bytes, dec128_bytes, milliseconds_of, uuid_bytes}
use Rattle.amqp_data.specs.Items.{byte_buf_bytes, array_items}
use Rattle.amqp_data.specs.Pairs.{entries_of}
use Rattle.amqp_data.specs.Text.{symbol_text}
use Rattle.amqp_ser.specs.Carried.{descriptor_content}
use Rattle.amqp_ser.specs.Tree as tree
use Rattle.amqp_ser.specs.Tree.{Tree, Trees, Pairs, trees_of, no_pairs, pair, scalar}
use Rattle.amqp_value.specs.declared.value.Value.{Value, fold-Value}
use Rattle.amqp_value.specs.declared.value.Value.TheOpen.{Value-F}

-- The pairs of the list, in order.
abbrev pub pairs_of : List (Tree × Tree) → Pairs
pairs_of [] = no_pairs
pairs_of (p ∷ ps) = pair p.0 p.1 (pairs_of ps)

-- The tree of one level, in which each value is already replaced by its tree.
abbrev pub tree_step : Value-F Tree → Tree
tree_step (Value-F.Described d) = tree.described (descriptor_content d.value.descriptor) d.value.value
tree_step Value-F.Null = scalar tree.null
tree_step (Value-F.Bool b) = scalar (tree.bool b)
tree_step (Value-F.Ubyte n) = scalar (tree.ubyte n)
tree_step (Value-F.Ushort n) = scalar (tree.ushort n)
tree_step (Value-F.Uint n) = scalar (tree.uint n)
tree_step (Value-F.Ulong n) = scalar (tree.ulong n)
tree_step (Value-F.Byte z) = scalar (tree.byte z)
tree_step (Value-F.Short z) = scalar (tree.short z)
tree_step (Value-F.Int z) = scalar (tree.int z)
tree_step (Value-F.Long z) = scalar (tree.long z)
tree_step (Value-F.Float x) = scalar (tree.float (f32_bits x))
tree_step (Value-F.Double x) = scalar (tree.double (f64_bits x))
tree_step (Value-F.Decimal32 x) = scalar (tree.decimal32 (dec32_bytes x))
tree_step (Value-F.Decimal64 x) = scalar (tree.decimal64 (dec64_bytes x))
tree_step (Value-F.Decimal128 x) = scalar (tree.decimal128 (dec128_bytes x))
tree_step (Value-F.Char c) = scalar (tree.char c)
tree_step (Value-F.Timestamp x) = scalar (tree.timestamp (milliseconds_of x))
tree_step (Value-F.Uuid x) = scalar (tree.uuid (uuid_bytes x))
tree_step (Value-F.Binary x) = scalar (tree.binary (byte_buf_bytes x))
tree_step (Value-F.String s) = scalar (tree.string (string_bytes s))
tree_step (Value-F.Symbol s) = scalar (tree.symbol (symbol_text s))
tree_step (Value-F.List v) = tree.list (trees_of v.items)
tree_step (Value-F.Map m) = tree.map (pairs_of (entries_of m))
tree_step (Value-F.Array a) = tree.array (trees_of (array_items a))

abbrev pub tree_of : Value → Tree
tree_of = fold-Value Tree tree_step

-- The trees of the values, in order.
abbrev pub all_of : List Value → Trees
all_of vs = trees_of (map tree_of vs)

-- The trees of the keys and values, in order.
abbrev pub pairs_trees : List (Value × Value) → Pairs
pairs_trees es = pairs_of (map (λ e. (tree_of e.0, tree_of e.1)) es)
