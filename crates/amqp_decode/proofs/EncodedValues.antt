-- Bytes that encode a tree are one encoded value.
use Rattle.std.proofs.Common.{◌≡◌, ℕ, IsTrue, List, ◌++◌, length, refl, arith, length-append}
use Rattle.std.specs.Int.{from_be_bytes, w32}
use Rattle.amqp_data.specs.FormatCode.{code_of}
use Rattle.amqp_data.specs.declared.format_code.EncodingCodes.{EncodingCodes}
use Rattle.amqp_data.specs.declared.format_code.EncodingCodes.TheVariants as code
use Rattle.amqp_frame.specs.Code.{is_primitive_code, size_width, body_len, payload_len}
use Rattle.amqp_frame.specs.EncodedValue.{IsEncodedValue}
use Rattle.amqp_frame.specs.declared.code.Category.{Category}
use Rattle.amqp_ser.specs.Tree.{Tree, Descriptor}
use Rattle.amqp_decode.specs.Codes.{is_primitive}
use Rattle.amqp_decode.specs.Encodes.{IsNumber, IsPayload, IsDescriptor, Encodes}

primitive-accepted : (c : EncodingCodes) → IsTrue (is_primitive c) → IsTrue (is_primitive_code (code_of c))
unfolding is_primitive_code
primitive-accepted code.DescribedType ok = absurd cc
primitive-accepted code.Null ok = refl
primitive-accepted code.BooleanTrue ok = refl
primitive-accepted code.BooleanFalse ok = refl
primitive-accepted code.Uint0 ok = refl
primitive-accepted code.Ulong0 ok = refl
primitive-accepted code.List0 ok = refl
primitive-accepted code.Ubyte ok = refl
primitive-accepted code.Byte ok = refl
primitive-accepted code.SmallUint ok = refl
primitive-accepted code.SmallUlong ok = refl
primitive-accepted code.SmallInt ok = refl
primitive-accepted code.SmallLong ok = refl
primitive-accepted code.Boolean ok = refl
primitive-accepted code.Ushort ok = refl
primitive-accepted code.Short ok = refl
primitive-accepted code.Uint ok = refl
primitive-accepted code.Int ok = refl
primitive-accepted code.Float ok = refl
primitive-accepted code.Char ok = refl
primitive-accepted code.Decimal32 ok = refl
primitive-accepted code.Ulong ok = refl
primitive-accepted code.Long ok = refl
primitive-accepted code.Double ok = refl
primitive-accepted code.Timestamp ok = refl
primitive-accepted code.Decimal64 ok = refl
primitive-accepted code.Decimal128 ok = refl
primitive-accepted code.Uuid ok = refl
primitive-accepted code.Vbin8 ok = refl
primitive-accepted code.Str8 ok = refl
primitive-accepted code.Sym8 ok = refl
primitive-accepted code.Vbin32 ok = refl
primitive-accepted code.Str32 ok = refl
primitive-accepted code.Sym32 ok = refl
primitive-accepted code.List8 ok = refl
primitive-accepted code.Map8 ok = refl
primitive-accepted code.List32 ok = refl
primitive-accepted code.Map32 ok = refl
primitive-accepted code.Array8 ok = refl
primitive-accepted code.Array32 ok = refl

read-number : {b : List ℕ} {n : ℕ} → IsNumber b n → (s : List ℕ) → from_be_bytes w32 (b ++ s) ≡ n
read-number (IsNumber.four_bytes a b c e) s = refl

number-len : {b : List ℕ} {n : ℕ} → IsNumber b n → length b ≡ 4
number-len (IsNumber.four_bytes a b c e) = refl

payload-len : {k : Category} {p content : List ℕ} → IsPayload k p content → length p ≡ payload_len k p
unfolding size_width body_len
payload-len (IsPayload.of_width content) = omega arith
payload-len (IsPayload.of_one_byte content) = omega arith
payload-len (IsPayload.of_four_bytes size content number) = omega (arith, read-number number content, number-len number, length-append size content)

descriptor-encoded : {b : List ℕ} {d : Descriptor} → IsDescriptor b d → IsEncodedValue b
descriptor-encoded (IsDescriptor.encoded c p s d ok is scalar) = IsEncodedValue.primitive (code_of c) p (primitive-accepted c ok) (payload-len is)

pub one-value : {d : ℕ} {s : List ℕ} {t : Tree} → Encodes d s t → IsEncodedValue s
one-value (Encodes.primitive d c p s t ok is h) = IsEncodedValue.primitive (code_of c) p (primitive-accepted c ok) (payload-len is)
one-value (Encodes.described d a b l t is sp) = IsEncodedValue.described a b (descriptor-encoded is) (one-value sp)
