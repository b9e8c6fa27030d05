-- The format codes (AMQP 1.0 part 1, section 1.6).
use Rattle.std.specs.Prelude.{◌≡◌, ℕ, Ok, Result, IfOk, IfErr}
use Rattle.amqp_data.specs.declared.error.Error.{Error}
use Rattle.amqp_data.specs.declared.error.Error.TheVariants.{InvalidFormatCode}
use Rattle.amqp_data.specs.declared.format_code.EncodingCodes.{EncodingCodes}
use Rattle.amqp_data.specs.declared.format_code.EncodingCodes.TheVariants.{DescribedType, Null, BooleanTrue, BooleanFalse, Uint0, Ulong0, List0, Ubyte, Byte, SmallUint, SmallUlong, SmallInt, SmallLong, Boolean, Ushort, Short, Uint, Int, Float, Char, Decimal32, Ulong, Long, Double, Timestamp, Decimal64, Decimal128, Uuid, Vbin8, Str8, Sym8, Vbin32, Str32, Sym32, List8, Map8, List32, Map32, Array8, Array32}

-- the byte of each name
abbrev pub code_of : EncodingCodes → ℕ
code_of DescribedType = 0x00
code_of Null = 0x40
code_of BooleanTrue = 0x41
code_of BooleanFalse = 0x42
code_of Uint0 = 0x43
code_of Ulong0 = 0x44
code_of List0 = 0x45
code_of Ubyte = 0x50
code_of Byte = 0x51
code_of SmallUint = 0x52
code_of SmallUlong = 0x53
code_of SmallInt = 0x54
code_of SmallLong = 0x55
code_of Boolean = 0x56
code_of Ushort = 0x60
code_of Short = 0x61
code_of Uint = 0x70
code_of Int = 0x71
code_of Float = 0x72
code_of Char = 0x73
code_of Decimal32 = 0x74
code_of Ulong = 0x80
code_of Long = 0x81
code_of Double = 0x82
code_of Timestamp = 0x83
code_of Decimal64 = 0x84
code_of Decimal128 = 0x94
code_of Uuid = 0x98
code_of Vbin8 = 0xa0
code_of Str8 = 0xa1
code_of Sym8 = 0xa3
code_of Vbin32 = 0xb0
code_of Str32 = 0xb1
code_of Sym32 = 0xb3
code_of List8 = 0xc0
code_of Map8 = 0xc1
code_of List32 = 0xd0
code_of Map32 = 0xd1
code_of Array8 = 0xe0
code_of Array32 = 0xf0

-- the result of converting a byte: the only name with this code, or `InvalidFormatCode` if there is
-- none
abbrev pub GivesName : ℕ → Result EncodingCodes Error → Type 0
GivesName byte result =
    ((name : EncodingCodes) → code_of name ≡ byte → result ≡ Ok name)
    × IfOk result (λ name. code_of name ≡ byte)
    × IfErr result (λ e. e ≡ InvalidFormatCode)
