use Rattle.std.proofs.Common.{string_bytes, refl}
use Rattle.amqp_data.specs.Fixed.{f32_bits, f64_bits, dec32_bytes, dec64_bytes, dec128_bytes, milliseconds_of, uuid_bytes}
use Rattle.amqp_data.specs.Items.{byte_buf_bytes}
use Rattle.amqp_data.specs.Text.{symbol_text}
use Rattle.amqp_ser.specs.Tree as tree
use Rattle.amqp_ser.specs.Tree.{scalar}
use Rattle.amqp_value.specs.Contents as content
use Rattle.amqp_value.specs.declared.value.Value.TheVariants as kind
use Rattle.amqp_value.proofs.BackLemmas as back
use Rattle.amqp_value.proofs.BackLemmas.{comes_back}
use Rattle.amqp_value.proofs.laws.conversions.scalars_come_back.Goals as goal

pub returns-clause-bools : goal.returns-clause-bools
returns-clause-bools c = comes_back kind.Bool (λ x. scalar (tree.bool x)) content.bool_in back.bool_tree (λ x. refl)

pub returns-clause-ubytes : goal.returns-clause-ubytes
returns-clause-ubytes c = comes_back kind.Ubyte (λ x. scalar (tree.ubyte x)) content.ubyte_in back.ubyte_tree (λ x. refl)

pub returns-clause-ushorts : goal.returns-clause-ushorts
returns-clause-ushorts c = comes_back kind.Ushort (λ x. scalar (tree.ushort x)) content.ushort_in back.ushort_tree (λ x. refl)

pub returns-clause-uints : goal.returns-clause-uints
returns-clause-uints c = comes_back kind.Uint (λ x. scalar (tree.uint x)) content.uint_in back.uint_tree (λ x. refl)

pub returns-clause-ulongs : goal.returns-clause-ulongs
returns-clause-ulongs c = comes_back kind.Ulong (λ x. scalar (tree.ulong x)) content.ulong_in back.ulong_tree (λ x. refl)

pub returns-clause-bytes : goal.returns-clause-bytes
returns-clause-bytes c = comes_back kind.Byte (λ x. scalar (tree.byte x)) content.byte_in back.byte_tree (λ x. refl)

pub returns-clause-shorts : goal.returns-clause-shorts
returns-clause-shorts c = comes_back kind.Short (λ x. scalar (tree.short x)) content.short_in back.short_tree (λ x. refl)

pub returns-clause-ints : goal.returns-clause-ints
returns-clause-ints c = comes_back kind.Int (λ x. scalar (tree.int x)) content.int_in back.int_tree (λ x. refl)

pub returns-clause-longs : goal.returns-clause-longs
returns-clause-longs c = comes_back kind.Long (λ x. scalar (tree.long x)) content.long_in back.long_tree (λ x. refl)

pub returns-clause-floats : goal.returns-clause-floats
returns-clause-floats c = comes_back kind.Float (λ x. scalar (tree.float (f32_bits x))) content.float_in back.float_tree (λ x. refl)

pub returns-clause-doubles : goal.returns-clause-doubles
returns-clause-doubles c = comes_back kind.Double (λ x. scalar (tree.double (f64_bits x))) content.double_in back.double_tree (λ x. refl)

pub returns-clause-decimal32s : goal.returns-clause-decimal32s
returns-clause-decimal32s c = comes_back kind.Decimal32 (λ x. scalar (tree.decimal32 (dec32_bytes x))) content.decimal32_in back.decimal32_tree (λ x. refl)

pub returns-clause-decimal64s : goal.returns-clause-decimal64s
returns-clause-decimal64s c = comes_back kind.Decimal64 (λ x. scalar (tree.decimal64 (dec64_bytes x))) content.decimal64_in back.decimal64_tree (λ x. refl)

pub returns-clause-decimal128s : goal.returns-clause-decimal128s
returns-clause-decimal128s c = comes_back kind.Decimal128 (λ x. scalar (tree.decimal128 (dec128_bytes x))) content.decimal128_in back.decimal128_tree (λ x. refl)

pub returns-clause-chars : goal.returns-clause-chars
returns-clause-chars c = comes_back kind.Char (λ x. scalar (tree.char x)) content.char_in back.char_tree (λ x. refl)

pub returns-clause-timestamps : goal.returns-clause-timestamps
returns-clause-timestamps c = comes_back kind.Timestamp (λ x. scalar (tree.timestamp (milliseconds_of x))) content.timestamp_in back.timestamp_tree (λ x. refl)

pub returns-clause-uuids : goal.returns-clause-uuids
returns-clause-uuids c = comes_back kind.Uuid (λ x. scalar (tree.uuid (uuid_bytes x))) content.uuid_in back.uuid_tree (λ x. refl)

pub returns-clause-binaries : goal.returns-clause-binaries
returns-clause-binaries c = comes_back kind.Binary (λ x. scalar (tree.binary (byte_buf_bytes x))) content.binary_in back.binary_tree (λ x. refl)

pub returns-clause-strings : goal.returns-clause-strings
returns-clause-strings c = comes_back kind.String (λ x. scalar (tree.string (string_bytes x))) content.string_in back.string_tree (λ x. refl)

pub returns-clause-symbols : goal.returns-clause-symbols
returns-clause-symbols c = comes_back kind.Symbol (λ x. scalar (tree.symbol (symbol_text x))) content.symbol_in back.symbol_tree (λ x. refl)
