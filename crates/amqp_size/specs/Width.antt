-- The lengths of headers and bodies (AMQP 1.0 part 1, section 1.2).
use Rattle.std.specs.Prelude.{ℕ, Bool, true, false, ◌&&◌, nat_le, nat_eq, ◌+◌, List, ◌++◌, length, if◌then◌else◌}
use Rattle.std.specs.Int.{w32, to_be_bytes}
use Rattle.amqp_ser.specs.Limits.{is_short}
use Rattle.amqp_ser.specs.Scalars.{sized}
use Rattle.amqp_ser.specs.Encoding.{wide, list_form, map_form, array_form}

-- A uint outside an array.
abbrev pub uint_form_len : ℕ → ℕ
uint_form_len n = if nat_eq n 0 then 1 else if nat_le n 255 then 2 else 5

-- A text or a binary of `n` bytes.
abbrev pub text_form_len : ℕ → ℕ
text_form_len n = if is_short n then n + 2 else n + 5

-- A map, and any body after a size and a count.
abbrev pub map_form_len : ℕ → ℕ
map_form_len n = if is_short n then n + 3 else n + 9

-- A list. Without elements it is one byte.
abbrev pub list_form_len : ℕ → ℕ
list_form_len n = if nat_eq n 0 then 1 else map_form_len n

-- An array with this content and this number of elements.
abbrev pub array_form_len : ℕ → ℕ → ℕ
array_form_len n count = if is_short n && nat_le count 255 then n + 3 else n + 9

-- A text or a binary of these bytes, and a list, a map or an array of this count and body: the
-- complete form, or the payload of an array element.
abbrev pub text_at : Bool → ℕ → ℕ → List ℕ → List ℕ
text_at false c8 c32 bs = sized c8 c32 bs
text_at true c8 c32 bs = to_be_bytes w32 (length bs) ++ bs

abbrev pub list_at : Bool → ℕ → List ℕ → List ℕ
list_at false count body = list_form count body
list_at true count body = wide count body

abbrev pub map_at : Bool → ℕ → List ℕ → List ℕ
map_at false count body = map_form count body
map_at true count body = wide count body

abbrev pub array_at : Bool → ℕ → List ℕ → List ℕ
array_at false count body_bytes = array_form count body_bytes
array_at true count body_bytes = wide count body_bytes
