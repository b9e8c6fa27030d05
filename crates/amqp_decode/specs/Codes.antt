-- Format codes, and what their payloads contain (AMQP 1.0 part 1, sections 1.2 and 1.6).
use Rattle.std.specs.Prelude.{ℕ, Bool, true, false, ◌==◌, if◌then◌else◌, List, [], ◌∷◌, Option, Some, None}
use Rattle.amqp_data.specs.FormatCode.{code_of}
use Rattle.amqp_data.specs.declared.format_code.EncodingCodes.{EncodingCodes}
use Rattle.amqp_data.specs.declared.format_code.EncodingCodes.TheVariants.{DescribedType, Null, BooleanTrue, BooleanFalse, Uint0, Ulong0, List0, Ubyte, Byte, SmallUint, SmallUlong, SmallInt, SmallLong, Boolean, Ushort, Short, Uint, Int, Float, Char, Decimal32, Ulong, Long, Double, Timestamp, Decimal64, Decimal128, Uuid, Vbin8, Str8, Sym8, Vbin32, Str32, Sym32, List8, Map8, List32, Map32, Array8, Array32}
use Rattle.amqp_decode.specs.declared.payload.Count.TheVariants.{Absent, OneByte, FourBytes}
use Rattle.amqp_decode.specs.declared.payload.PayloadShape.{PayloadShape}
use Rattle.amqp_decode.specs.declared.payload.PayloadShape.TheVariants as shape

-- The codes of primitive types: all except 00 (section 1.6).
abbrev pub primitive_codes : List EncodingCodes
primitive_codes =
    Null ∷ BooleanTrue ∷ BooleanFalse ∷ Uint0 ∷ Ulong0 ∷ List0 ∷ Ubyte ∷ Byte ∷ SmallUint ∷ SmallUlong ∷ SmallInt
    ∷ SmallLong ∷ Boolean ∷ Ushort ∷ Short ∷ Uint ∷ Int ∷ Float ∷ Char ∷ Decimal32 ∷ Ulong ∷ Long ∷ Double ∷ Timestamp
    ∷ Decimal64 ∷ Decimal128 ∷ Uuid ∷ Vbin8 ∷ Str8 ∷ Sym8 ∷ Vbin32 ∷ Str32 ∷ Sym32 ∷ List8 ∷ Map8 ∷ List32 ∷ Map32
    ∷ Array8 ∷ Array32 ∷ []

abbrev pub is_primitive : EncodingCodes → Bool
is_primitive DescribedType = false
is_primitive _ = true

-- The first of the codes that has this byte.
abbrev pub code_among : List EncodingCodes → ℕ → Option EncodingCodes
code_among [] byte = None
code_among (code ∷ codes) byte = if code_of code == byte then Some code else code_among codes byte

-- The primitive code that has this byte, if there is one.
unfoldable pub primitive_of : ℕ → Option EncodingCodes
primitive_of byte = code_among primitive_codes byte

-- What the payload of a code contains. A list, a map or an array begins with its count, except the
-- list without elements.
abbrev pub shape_of_code : EncodingCodes → PayloadShape
shape_of_code DescribedType = shape.Described
shape_of_code List0 = shape.List Absent
shape_of_code List8 = shape.List OneByte
shape_of_code List32 = shape.List FourBytes
shape_of_code Map8 = shape.Map OneByte
shape_of_code Map32 = shape.Map FourBytes
shape_of_code Array8 = shape.Array OneByte
shape_of_code Array32 = shape.Array FourBytes
shape_of_code _ = shape.Scalar
