-- The error of bytes that are no encoded value: that of the first fault, in the order of the bytes
-- (AMQP 1.0 part 1, sections 1.2 and 1.6). A byte that is no format code where one is required is
-- `InvalidFormatCode`. Bytes or a payload that end too early are `UnexpectedEof`. Any other fault is
-- `InvalidValue`: bytes left over, an invalid scalar, an odd count of a map, a descriptor of another
-- kind, a described constructor, and a value that is too deep.
use Rattle.std.specs.Prelude.{◌≡◌, ◌⊎◌, ℕ, zero, suc, ◌%◌, ◌==◌, if◌then◌else◌, List, [], ◌∷◌, Option, Some, None, Result, Ok, Err}
use Rattle.amqp_data.specs.FormatCode.{code_of}
use Rattle.amqp_data.specs.declared.error.Error.{Error}
use Rattle.amqp_data.specs.declared.error.Error.TheVariants.{OutOfMemory, TooLong, InvalidValue, InvalidFormatCode, UnexpectedEof}
use Rattle.amqp_data.specs.declared.format_code.EncodingCodes.{EncodingCodes}
use Rattle.amqp_frame.specs.Code.{category}
use Rattle.amqp_decode.specs.Codes.{primitive_of, shape_of_code}
use Rattle.amqp_decode.specs.Parsed.{ValueReader, ContentReader, content_at, counted_in, descriptor_at, payload_in, parse, parse_content}
use Rattle.amqp_decode.specs.declared.payload.PayloadShape.{PayloadShape}
use Rattle.amqp_decode.specs.declared.payload.PayloadShape.TheVariants as shape

-- The errors of an encoded value that cannot be read, and of a code's payload.
abbrev pub Fault : Type 0
Fault = List ℕ → Error

abbrev pub PayloadFault : Type 0
PayloadFault = EncodingCodes → List ℕ → Error

-- This error if nothing was read, and the error of what comes after it otherwise.
abbrev pub if_none : {A : Type 0} → Option A → Error → (A → Error) → Error
if_none None e later = e
if_none (Some a) e later = later a

-- Of `n` values, one after another, the first that cannot be read. After them, bytes are left over.
abbrev pub fault_of_values : Fault → ValueReader → ℕ → List ℕ → Error
fault_of_values c f zero s = InvalidValue
fault_of_values c f (suc n) s = if_none (f s) (c s) (λ r. fault_of_values c f n r.1)

-- A payload that ends too early, or the fault of its content.
abbrev pub fault_of_payload : PayloadFault → PayloadFault
fault_of_payload k code s = if_none (content_at (category (code_of code)) s) UnexpectedEof (λ p. k code p.0)

-- A byte that is not the code of a primitive type. The code of described values is one.
abbrev pub fault_of_byte : ℕ → Error
fault_of_byte byte = if byte == 0 then InvalidValue else InvalidFormatCode

abbrev pub fault_of_map : Fault → ValueReader → ℕ × List ℕ → Error
fault_of_map c f (n, s) = if n % 2 == 0 then fault_of_values c f n s else InvalidValue

abbrev pub fault_of_array : PayloadFault → ContentReader → ℕ × List ℕ → Error
fault_of_array k h (n, []) = UnexpectedEof
fault_of_array k h (n, c ∷ s) = if_none (primitive_of c) (fault_of_byte c) (λ code. fault_of_values (k code) (payload_in h code) n s)

-- The fault of a content and of an encoded value, given those of values and array elements of less
-- depth.
abbrev pub fault_of_shape : Fault → ValueReader → PayloadFault → ContentReader → PayloadShape → List ℕ → Error
fault_of_shape c f k h shape.Described s = InvalidValue
fault_of_shape c f k h shape.Scalar s = InvalidValue
fault_of_shape c f k h (shape.List count) s = if_none (counted_in count s) UnexpectedEof (λ p. fault_of_values c f p.0 p.1)
fault_of_shape c f k h (shape.Map count) s = if_none (counted_in count s) UnexpectedEof (fault_of_map c f)
fault_of_shape c f k h (shape.Array count) s = if_none (counted_in count s) UnexpectedEof (fault_of_array k h)

abbrev pub fault_of_content : Fault → ValueReader → PayloadFault → ContentReader → PayloadFault
fault_of_content c f k h code s = fault_of_shape c f k h (shape_of_code code) s

abbrev pub fault_of_scalar : PayloadFault
fault_of_scalar code s = InvalidValue

abbrev pub fault_of_descriptor : List ℕ → Error
fault_of_descriptor [] = UnexpectedEof
fault_of_descriptor (byte ∷ s) = if_none (primitive_of byte) (fault_of_byte byte) (λ code. fault_of_payload fault_of_scalar code s)

abbrev pub fault_of_value : Fault → ValueReader → PayloadFault → ContentReader → Fault
fault_of_value c f k h [] = UnexpectedEof
fault_of_value c f k h (byte ∷ s) =
    if byte == 0 then if_none (descriptor_at s) (fault_of_descriptor s) (λ d. c d.1)
    else if_none (primitive_of byte) InvalidFormatCode (λ code. fault_of_payload (fault_of_content c f k h) code s)

unfoldable mutual
  -- The fault of the first encoded value of the bytes, with at most this depth.
  pub fault_in : ℕ → List ℕ → Error
  fault_in zero s = InvalidValue
  fault_in (suc depth) s = fault_of_value (fault_in depth) (parse depth) (fault_in_item depth) (parse_content depth) s

  -- The fault of the first payload of a code, as an array element with at most this depth.
  pub fault_in_item : ℕ → EncodingCodes → List ℕ → Error
  fault_in_item zero code s = InvalidValue
  fault_in_item (suc depth) code s = fault_of_payload (fault_of_content (fault_in depth) (parse depth) (fault_in_item depth) (parse_content depth)) code s

-- The same, in which the values inside have at most this depth.
abbrev pub fault_around : ℕ → Fault
fault_around depth s = fault_of_value (fault_in depth) (parse depth) (fault_in_item depth) (parse_content depth) s

abbrev pub content_fault : ℕ → PayloadFault
content_fault depth code s = fault_of_content (fault_in depth) (parse depth) (fault_in_item depth) (parse_content depth) code s

-- The fault of bytes that are not exactly one encoded value.
abbrev pub decode_fault : ℕ → List ℕ → Error
decode_fault depth bytes = fault_of_values (fault_in depth) (parse depth) 1 bytes

-- Out of memory, or the error of the fault.
abbrev pub DecodeFails : ℕ → List ℕ → Error → Type 0
DecodeFails depth bytes e = (e ≡ OutOfMemory) ⊎ (e ≡ decode_fault depth bytes)

-- An error other than that of an allocation or of a limit is this one.
abbrev pub FailsBy : {T : Type 0} → Error → Result T Error → Type 0
FailsBy fault (Ok v) = Unit {0}
FailsBy fault (Err e) = ¬ (e ≡ OutOfMemory) → ¬ (e ≡ TooLong) → e ≡ fault
