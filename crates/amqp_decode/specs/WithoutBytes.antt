-- The array elements without bytes in an encoded value: those of an array whose constructor is that of
-- null, `true`, `false`, a zero or the empty list, a code from 40 to 45 (AMQP 1.0 part 1, sections
-- 1.2.1, 1.2.4 and 1.6). Bytes that are no encoded value have those that come before the fault.
use Rattle.std.specs.Prelude.{◌≡◌, ◌<◌, ◌≤◌, ℕ, zero, suc, ◌+◌, ◌/◌, Bool, ◌==◌, if◌then◌else◌, List, [], ◌∷◌, Option, Some, None, Result, Ok, Err}
use Rattle.amqp_data.specs.FormatCode.{code_of}
use Rattle.amqp_data.specs.declared.error.Error.{Error}
use Rattle.amqp_data.specs.declared.error.Error.TheVariants.{TooLong}
use Rattle.amqp_data.specs.declared.format_code.EncodingCodes.{EncodingCodes}
use Rattle.amqp_frame.specs.Code.{category}
use Rattle.amqp_decode.specs.Codes.{primitive_of, shape_of_code}
use Rattle.amqp_decode.specs.Parsed.{ValueReader, ContentReader, content_at, counted_in, descriptor_at, payload_in, parse, parse_content}
use Rattle.amqp_decode.specs.declared.payload.PayloadShape.{PayloadShape}
use Rattle.amqp_decode.specs.declared.payload.PayloadShape.TheVariants as shape

-- The payload of the code has no bytes (section 1.2.1).
abbrev pub has_no_payload : EncodingCodes → Bool
has_no_payload code = code_of code / 16 == 4

-- Numbers of elements in an encoded value, and in the content of a code's payload.
abbrev pub Counter : Type 0
Counter = List ℕ → ℕ

abbrev pub ContentCounter : Type 0
ContentCounter = EncodingCodes → List ℕ → ℕ

-- The number in what was read, if anything was.
abbrev pub if_read : {A : Type 0} → Option A → (A → ℕ) → ℕ
if_read None count = 0
if_read (Some a) count = count a

-- The sum over `n` values, one after another.
abbrev pub sum_of : Counter → ValueReader → ℕ → List ℕ → ℕ
sum_of c f zero s = 0
sum_of c f (suc n) s = c s + if_read (f s) (λ r. sum_of c f n r.1)

abbrev pub in_payload : ContentCounter → EncodingCodes → List ℕ → ℕ
in_payload k code s = if_read (content_at (category (code_of code)) s) (λ p. k code p.0)

-- `n` elements of an array with this constructor, and the elements in them.
abbrev pub own_items : EncodingCodes → ℕ → ℕ
own_items code n = if has_no_payload code then n else 0

abbrev pub in_items : ContentCounter → ContentReader → EncodingCodes → ℕ → List ℕ → ℕ
in_items k h code n s = own_items code n + sum_of (in_payload k code) (payload_in h code) n s

abbrev pub in_array : ContentCounter → ContentReader → ℕ × List ℕ → ℕ
in_array k h (n, []) = 0
in_array k h (n, c ∷ s) = if_read (primitive_of c) (λ code. in_items k h code n s)

-- A content, an encoded value, and what is in them, given the numbers in values of less depth.
abbrev pub in_shape : Counter → ValueReader → ContentCounter → ContentReader → PayloadShape → List ℕ → ℕ
in_shape c f k h shape.Described s = 0
in_shape c f k h shape.Scalar s = 0
in_shape c f k h (shape.List count) s = if_read (counted_in count s) (λ p. sum_of c f p.0 p.1)
in_shape c f k h (shape.Map count) s = if_read (counted_in count s) (λ p. sum_of c f p.0 p.1)
in_shape c f k h (shape.Array count) s = if_read (counted_in count s) (in_array k h)

abbrev pub in_content : Counter → ValueReader → ContentCounter → ContentReader → ContentCounter
in_content c f k h code s = in_shape c f k h (shape_of_code code) s

abbrev pub counted_in_value : Counter → ValueReader → ContentCounter → ContentReader → Counter
counted_in_value c f k h [] = 0
counted_in_value c f k h (byte ∷ s) =
    if byte == 0 then if_read (descriptor_at s) (λ d. c d.1) else if_read (primitive_of byte) (λ code. in_payload (in_content c f k h) code s)

unfoldable mutual
  -- In the first encoded value of the bytes, with at most this depth.
  pub elements_without_bytes : ℕ → List ℕ → ℕ
  elements_without_bytes zero s = 0
  elements_without_bytes (suc depth) s = counted_in_value (elements_without_bytes depth) (parse depth) (content_without_bytes depth) (parse_content depth) s

  -- In a content with at most this depth.
  pub content_without_bytes : ℕ → EncodingCodes → List ℕ → ℕ
  content_without_bytes zero code s = 0
  content_without_bytes (suc depth) code s = in_content (elements_without_bytes depth) (parse depth) (content_without_bytes depth) (parse_content depth) code s

-- The same, in which the values inside have at most this depth.
abbrev pub value_around : ℕ → List ℕ → ℕ
value_around depth s = counted_in_value (elements_without_bytes depth) (parse depth) (content_without_bytes depth) (parse_content depth) s

abbrev pub content_around : ℕ → EncodingCodes → List ℕ → ℕ
content_around depth code s = in_content (elements_without_bytes depth) (parse depth) (content_without_bytes depth) (parse_content depth) code s

-- `n` elements take the limit from `old` to `new`. `None` is no limit.
abbrev pub Leaves : Option ℕ → Option ℕ → ℕ → Type 0
Leaves None None n = Unit {0}
Leaves (Some old) (Some new) n = new + n ≡ old
Leaves None (Some new) n = ⊥
Leaves (Some old) None n = ⊥

-- `n` elements are more than the limit, and not more.
abbrev pub IsExceeded : Option ℕ → ℕ → Type 0
IsExceeded None n = ⊥
IsExceeded (Some limit) n = limit < n

abbrev pub IsWithin : Option ℕ → ℕ → Type 0
IsWithin None n = Unit {0}
IsWithin (Some limit) n = n ≤ limit

-- A call took `n` elements from the limit, or `n` elements are more than it if the error is `TooLong`.
abbrev pub Spends : {T : Type 0} → Result T Error → Option ℕ → Option ℕ → ℕ → Type 0
Spends (Ok v) old new n = Leaves old new n
Spends (Err e) old new n = e ≡ TooLong → IsExceeded old n
