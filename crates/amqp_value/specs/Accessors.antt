-- What the accessors of a value return (AMQP 1.0 part 1, section 1.6).
use Rattle.std.specs.Prelude.{ℕ, ◌^◌, ℤ, pos, negsuc, Bool, true, false, List, Option, Some, None, length, string_bytes, nat_lt, if◌then◌else◌}
use Rattle.std.specs.Str.{bytes_eq}
use Rattle.amqp_data.specs.Items.{array_items, byte_buf_bytes}
use Rattle.amqp_data.specs.Pairs.{entries_of}
use Rattle.amqp_data.specs.Text.{symbol_text}
use Rattle.amqp_value.specs.declared.value.Value.{Value, out-Value}
use Rattle.amqp_value.specs.declared.value.Value.TheVariants as kind
use Rattle.amqp_value.specs.declared.value.Value.TheOpen.{Value-F}

abbrev pub is_null_value : Value → Bool
is_null_value kind.Null = true
is_null_value _ = false

-- The number, if it is not negative.
abbrev pub natural_of : ℤ → Option ℕ
natural_of (pos n) = Some n
natural_of (negsuc n) = None

-- The number, if it is less than 2^63.
abbrev pub integer_of : ℕ → Option ℤ
integer_of n = if nat_lt n (2 ^ 63) then Some (pos n) else None

-- The number of an integer of any type, if it is not negative.
abbrev pub natural_in : Value → Option ℕ
natural_in (kind.Ubyte n) = Some n
natural_in (kind.Ushort n) = Some n
natural_in (kind.Uint n) = Some n
natural_in (kind.Ulong n) = Some n
natural_in (kind.Byte z) = natural_of z
natural_in (kind.Short z) = natural_of z
natural_in (kind.Int z) = natural_of z
natural_in (kind.Long z) = natural_of z
natural_in _ = None

-- The number of an integer of any type, if it is less than 2^63.
abbrev pub integer_in : Value → Option ℤ
integer_in (kind.Ubyte n) = Some (pos n)
integer_in (kind.Ushort n) = Some (pos n)
integer_in (kind.Uint n) = Some (pos n)
integer_in (kind.Ulong n) = integer_of n
integer_in (kind.Byte z) = Some z
integer_in (kind.Short z) = Some z
integer_in (kind.Int z) = Some z
integer_in (kind.Long z) = Some z
integer_in _ = None

-- Whether the value is a string or a symbol with this text.
abbrev pub has_text : List ℕ → Value → Bool
has_text text (kind.String s) = bytes_eq (string_bytes s) text
has_text text (kind.Symbol s) = bytes_eq (symbol_text s) text
has_text text _ = false

-- The items of a list or the elements of an array.
abbrev items_level : Value-F Value → Option (List Value)
items_level (Value-F.List v) = Some v.items
items_level (Value-F.Array a) = Some (array_items a)
items_level _ = None

abbrev pub items_in : Value → Option (List Value)
items_in v = items_level (out-Value v)

-- The number of items, elements, entries or bytes.
abbrev len_level : Value-F Value → Option ℕ
len_level (Value-F.List v) = Some (length v.items)
len_level (Value-F.Array a) = Some (length (array_items a))
len_level (Value-F.Map m) = Some (length (entries_of m))
len_level (Value-F.Binary b) = Some (length (byte_buf_bytes b))
len_level (Value-F.String s) = Some (length (string_bytes s))
len_level (Value-F.Symbol s) = Some (length (symbol_text s))
len_level _ = None

abbrev pub len_in : Value → Option ℕ
len_in v = len_level (out-Value v)
