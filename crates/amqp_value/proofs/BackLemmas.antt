-- The trees of scalars, and the round trip of each scalar through its value.
use Rattle.std.proofs.Common.{◌≡◌, ℕ, ℤ, Bool, Option, Some, ok_or, String, Global, string_bytes, ap, ◌∙◌, rules}
use Rattle.amqp_data.specs.Fixed.{f32_bits, f64_bits, dec32_bytes, dec64_bytes, dec128_bytes, milliseconds_of, uuid_bytes}
use Rattle.amqp_data.specs.Items.{byte_buf_bytes}
use Rattle.amqp_data.specs.Text.{symbol_text}
use Rattle.amqp_data.specs.declared.bits.F32Bits.{F32Bits}
use Rattle.amqp_data.specs.declared.bits.F64Bits.{F64Bits}
use Rattle.amqp_data.specs.declared.byte_buf.ByteBuf.{ByteBuf}
use Rattle.amqp_data.specs.declared.decimal.Dec32.{Dec32}
use Rattle.amqp_data.specs.declared.decimal.Dec64.{Dec64}
use Rattle.amqp_data.specs.declared.decimal.Dec128.{Dec128}
use Rattle.amqp_data.specs.declared.symbol.Symbol.{Symbol}
use Rattle.amqp_data.specs.declared.timestamp.Timestamp.{Timestamp}
use Rattle.amqp_data.specs.declared.uuid.Uuid.{Uuid}
use Rattle.amqp_ser.specs.Tree as tree
use Rattle.amqp_ser.specs.Tree.{Tree, scalar}
use Rattle.amqp_value.specs.ComesBack.{ComesBack}
use Rattle.amqp_value.specs.Contents.{GivesBack}
use Rattle.amqp_value.specs.TreeOf.{tree_of}
use Rattle.amqp_value.specs.declared.value.Value.{Value, the_lemmas}
use Rattle.amqp_value.specs.declared.value.Value.TheVariants as kind

-- A scalar round-trips if its value has the scalar's tree and contains the scalar.
pub comes_back : {T : Type 0} (made : T → Value) (tree : T → Tree) (content : Value → Option T) → ((x : T) → tree_of (made x) ≡ tree x) → ((x : T) → content (made x) ≡ Some x)
    → ComesBack (λ x. Some (tree x)) (λ x v. v ≡ made x) (GivesBack content)
comes_back made tree content trees contents x v is = (
  ap (λ u. Some (tree_of u)) is ∙ ap Some (trees x),
  λ r gives. gives ∙ ap (λ u. ok_or (content u) u) is ∙ ap (λ o. ok_or o (made x)) (contents x),
)

pub bool_tree : (x : Bool) → tree_of (kind.Bool x) ≡ scalar (tree.bool x)
bool_tree x = search (rules, the_lemmas)

pub ubyte_tree : (x : ℕ) → tree_of (kind.Ubyte x) ≡ scalar (tree.ubyte x)
ubyte_tree x = search (rules, the_lemmas)

pub ushort_tree : (x : ℕ) → tree_of (kind.Ushort x) ≡ scalar (tree.ushort x)
ushort_tree x = search (rules, the_lemmas)

pub uint_tree : (x : ℕ) → tree_of (kind.Uint x) ≡ scalar (tree.uint x)
uint_tree x = search (rules, the_lemmas)

pub ulong_tree : (x : ℕ) → tree_of (kind.Ulong x) ≡ scalar (tree.ulong x)
ulong_tree x = search (rules, the_lemmas)

pub byte_tree : (x : ℤ) → tree_of (kind.Byte x) ≡ scalar (tree.byte x)
byte_tree x = search (rules, the_lemmas)

pub short_tree : (x : ℤ) → tree_of (kind.Short x) ≡ scalar (tree.short x)
short_tree x = search (rules, the_lemmas)

pub int_tree : (x : ℤ) → tree_of (kind.Int x) ≡ scalar (tree.int x)
int_tree x = search (rules, the_lemmas)

pub long_tree : (x : ℤ) → tree_of (kind.Long x) ≡ scalar (tree.long x)
long_tree x = search (rules, the_lemmas)

pub float_tree : (x : F32Bits) → tree_of (kind.Float x) ≡ scalar (tree.float (f32_bits x))
float_tree x = search (rules, the_lemmas)

pub double_tree : (x : F64Bits) → tree_of (kind.Double x) ≡ scalar (tree.double (f64_bits x))
double_tree x = search (rules, the_lemmas)

pub decimal32_tree : (x : Dec32) → tree_of (kind.Decimal32 x) ≡ scalar (tree.decimal32 (dec32_bytes x))
decimal32_tree x = search (rules, the_lemmas)

pub decimal64_tree : (x : Dec64) → tree_of (kind.Decimal64 x) ≡ scalar (tree.decimal64 (dec64_bytes x))
decimal64_tree x = search (rules, the_lemmas)

pub decimal128_tree : (x : Dec128) → tree_of (kind.Decimal128 x) ≡ scalar (tree.decimal128 (dec128_bytes x))
decimal128_tree x = search (rules, the_lemmas)

pub char_tree : (x : ℕ) → tree_of (kind.Char x) ≡ scalar (tree.char x)
char_tree x = search (rules, the_lemmas)

pub timestamp_tree : (x : Timestamp) → tree_of (kind.Timestamp x) ≡ scalar (tree.timestamp (milliseconds_of x))
timestamp_tree x = search (rules, the_lemmas)

pub uuid_tree : (x : Uuid) → tree_of (kind.Uuid x) ≡ scalar (tree.uuid (uuid_bytes x))
uuid_tree x = search (rules, the_lemmas)

pub binary_tree : (x : ByteBuf) → tree_of (kind.Binary x) ≡ scalar (tree.binary (byte_buf_bytes x))
binary_tree x = search (rules, the_lemmas)

pub string_tree : (x : String Global) → tree_of (kind.String x) ≡ scalar (tree.string (string_bytes x))
string_tree x = search (rules, the_lemmas)

pub symbol_tree : (x : Symbol) → tree_of (kind.Symbol x) ≡ scalar (tree.symbol (symbol_text x))
symbol_tree x = search (rules, the_lemmas)
