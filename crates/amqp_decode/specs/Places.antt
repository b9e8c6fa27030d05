-- Where bytes that are no encoded value have their first fault (`Faults`), as the number of bytes
-- from there to the end of the input, and the number of levels that a value there may have. The
-- fault of a byte that is no format code, or of the code of a value that is too deep, is at that byte.
-- Bytes or a payload that end too early have it at their end. An odd count of a map has it at the last
-- byte of the count, a scalar at the start of its content or of the character that is not UTF-8, a
-- descriptor of another kind at its code, and bytes left over at the first of them.
use Rattle.std.specs.Prelude.{◌≡◌, ℕ, zero, suc, ◌+◌, ◌-◌, ◌%◌, ◌==◌, Bool, true, false, if◌then◌else◌, List, [], ◌∷◌, length, Option, Some, None}
use Rattle.std.specs.Str.Lossy.{utf8_valid_len}
use Rattle.amqp_data.specs.FormatCode.{code_of}
use Rattle.amqp_data.specs.declared.format_code.EncodingCodes.{EncodingCodes}
use Rattle.amqp_data.specs.declared.format_code.EncodingCodes.TheVariants as code
use Rattle.amqp_frame.specs.Code.{category}
use Rattle.amqp_decode.specs.Codes.{primitive_of, shape_of_code}
use Rattle.amqp_decode.specs.Scalars.{and_then}
use Rattle.amqp_decode.specs.Parsed.{ValueReader, ContentReader, content_at, counted_in, descriptor_at, payload_in, parse, parse_content}
use Rattle.amqp_decode.specs.declared.payload.PayloadShape.{PayloadShape}
use Rattle.amqp_decode.specs.declared.payload.PayloadShape.TheVariants as shape

-- The bytes from the fault on, and the levels.
abbrev pub PlaceFromEnd : Type 0
PlaceFromEnd = ℕ × ℕ

-- The place of the fault of an encoded value, and of a code's payload, given the number of bytes
-- after those that it is looked for in.
abbrev pub Finder : Type 0
Finder = ℕ → List ℕ → PlaceFromEnd

abbrev pub PayloadFinder : Type 0
PayloadFinder = EncodingCodes → Finder

abbrev pub at_start : ℕ → Finder
at_start level after s = (length s + after, level)

-- This place if nothing was read, and the place of what comes after it otherwise.
abbrev pub place_unless : {A : Type 0} → Option A → PlaceFromEnd → (A → PlaceFromEnd) → PlaceFromEnd
place_unless None from_end later = from_end
place_unless (Some a) from_end later = later a

abbrev pub place_of_values : Finder → ValueReader → ℕ → ℕ → Finder
place_of_values c f level zero after s = at_start level after s
place_of_values c f level (suc n) after s = place_unless (f s) (c after s) (λ r. place_of_values c f level n after r.1)

abbrev pub place_of_payload : PayloadFinder → ℕ → PayloadFinder
place_of_payload k level code after s = place_unless (content_at (category (code_of code)) s) (after, level) (λ p. k code (length p.1 + after) p.0)

abbrev pub is_text : EncodingCodes → Bool
is_text code.Str8 = true
is_text code.Str32 = true
is_text code.Sym8 = true
is_text code.Sym32 = true
is_text _ = false

-- The place of the first character that is not UTF-8.
abbrev pub place_of_text : ℕ → Finder
place_of_text level after s = (length s - utf8_valid_len s + after, level)

abbrev pub place_of_scalar : ℕ → PayloadFinder
place_of_scalar level code after s = if is_text code then place_of_text level after s else at_start level after s

abbrev pub place_of_map : Finder → ValueReader → ℕ → ℕ → ℕ × List ℕ → PlaceFromEnd
place_of_map c f level after (n, s) = if n % 2 == 0 then place_of_values c f level n after s else (suc (length s + after), level)

abbrev pub place_of_array : PayloadFinder → ContentReader → ℕ → ℕ → ℕ × List ℕ → PlaceFromEnd
place_of_array k h level after (n, []) = (after, level)
place_of_array k h level after (n, c ∷ s) =
    place_unless (primitive_of c) (at_start level after (c ∷ s)) (λ code. place_of_values (k code) (payload_in h code) level n after s)

-- The place in a content and in an encoded value, given that in values and array elements of less
-- depth, and the levels that those may have.
abbrev pub place_of_shape : Finder → ValueReader → PayloadFinder → ContentReader → ℕ → PayloadShape → PayloadFinder
place_of_shape c f k h level shape.Described code after s = at_start (suc level) after s
place_of_shape c f k h level shape.Scalar code after s = place_of_scalar (suc level) code after s
place_of_shape c f k h level (shape.List count) code after s = place_unless (counted_in count s) (after, level) (λ p. place_of_values c f level p.0 after p.1)
place_of_shape c f k h level (shape.Map count) code after s = place_unless (counted_in count s) (after, level) (place_of_map c f level after)
place_of_shape c f k h level (shape.Array count) code after s = place_unless (counted_in count s) (after, level) (place_of_array k h level after)

abbrev pub place_of_content : Finder → ValueReader → PayloadFinder → ContentReader → ℕ → PayloadFinder
place_of_content c f k h level code after s = place_of_shape c f k h level (shape_of_code code) code after s

-- The codes of a ulong or a symbol.
abbrev pub names_descriptor : EncodingCodes → Bool
names_descriptor code.Ulong0 = true
names_descriptor code.SmallUlong = true
names_descriptor code.Ulong = true
names_descriptor code.Sym8 = true
names_descriptor code.Sym32 = true
names_descriptor _ = false

abbrev pub place_of_descriptor : ℕ → Finder
place_of_descriptor level after [] = (after, level)
place_of_descriptor level after (byte ∷ s) =
    place_unless (primitive_of byte) (at_start level after (byte ∷ s))
    (λ code. place_of_payload
    (λ descriptor_code later content. if names_descriptor descriptor_code then place_of_scalar level descriptor_code later content else at_start level after (byte ∷ s))
    level code after s)

abbrev pub place_of_value : Finder → ValueReader → PayloadFinder → ContentReader → ℕ → Finder
place_of_value c f k h level after [] = (after, suc level)
place_of_value c f k h level after (byte ∷ s) =
    if byte == 0 then place_unless (descriptor_at s) (place_of_descriptor level after s) (λ d. c after d.1)
    else place_unless (primitive_of byte) (at_start (suc level) after (byte ∷ s)) (λ code. place_of_payload (place_of_content c f k h level) (suc level) code after s)

unfoldable mutual
  -- The place in the first encoded value of the bytes, with at most this depth.
  pub place_in : ℕ → Finder
  place_in zero after s = at_start 0 after s
  place_in (suc depth) after s = place_of_value (place_in depth) (parse depth) (place_in_item depth) (parse_content depth) depth after s

  -- The place in the first payload of a code, as an array element with at most this depth.
  pub place_in_item : ℕ → PayloadFinder
  place_in_item zero code after s = at_start 0 after s
  place_in_item (suc depth) code after s =
      place_of_payload (place_of_content (place_in depth) (parse depth) (place_in_item depth) (parse_content depth) depth) (suc depth) code after s

-- The same, in which the values inside have at most this depth.
abbrev pub place_around : ℕ → Finder
place_around depth after s = place_of_value (place_in depth) (parse depth) (place_in_item depth) (parse_content depth) depth after s

abbrev pub content_place : ℕ → PayloadFinder
content_place depth code after s = place_of_content (place_in depth) (parse depth) (place_in_item depth) (parse_content depth) depth code after s

-- The place in bytes that are not exactly one encoded value.
abbrev pub decode_place : ℕ → List ℕ → PlaceFromEnd
decode_place depth bytes = place_of_values (place_in depth) (parse depth) depth 1 0 bytes

-- What is left after `n` values, one after another, if all can be read.
abbrev pub skips : ValueReader → ℕ → List ℕ → Option (List ℕ)
skips f zero s = Some s
skips f (suc n) s = and_then (f s) (λ r. skips f n r.1)

-- The offset of the first fault, and the number of lists, maps, arrays and described values that it
-- is in.
abbrev pub place_of : ℕ → List ℕ → ℕ × ℕ
place_of depth bytes = (length bytes - (decode_place depth bytes).0, depth - (decode_place depth bytes).1)
