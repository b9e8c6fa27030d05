-- A list, a map or an array that is closed after its elements were written.
use Rattle.std.specs.Prelude.{◌≡◌, ◌⊎◌, ℕ, ◌+◌, ◌≤◌, ◌<◌, ◌^◌, ◌==◌, if◌then◌else◌, List, [], ◌∷◌, ◌++◌, length, take, drop}
use Rattle.amqp_ser.specs.Encoding.{wide, list_form, map_form, array_form}
use Rattle.amqp_writer.specs.declared.writer.Writer.{Writer}
use Rattle.amqp_writer.specs.declared.writer.Opened.{Opened}

-- The bytes between the start of a compound that is open and its body: room for the longest header.
abbrev pub header : ℕ → ℕ
header element = if element == 0 then 9 else 8

-- After a compound is opened, its elements have this format code if it is an array, and `n` bytes of
-- its body are written.
abbrev pub Begins : Writer → Writer → ℕ → ℕ → Type 0
Begins w w' element n = (w'.element ≡ element) × (w.at + 10 < 2 ^ 64 → w'.at ≡ w.at + header w.element + n)

-- A compound of this kind, count and body, outside an array and as an element of one.
abbrev pub form_of : ℕ → ℕ → List ℕ → List ℕ
form_of kind n body = if kind == 0xd0 then list_form n body else if kind == 0xd1 then map_form n body else array_form n body

abbrev pub compound_at : ℕ → ℕ → ℕ → List ℕ → List ℕ
compound_at element kind n body = if element == 0 then form_of kind n body else wide n body

-- The buffer has these bytes at the offset.
abbrev pub HasBody : List ℕ → ℕ → List ℕ → Type 0
HasBody out at body = (at + length body ≤ length out) × (take (length body) (drop at out) ≡ body)

-- These bytes stand after the first `start` bytes, which have not changed.
abbrev pub StandsAfter : List ℕ → List ℕ → ℕ → List ℕ → Type 0
StandsAfter old new start bytes = take (start + length bytes) new ≡ take start old ++ bytes

-- The body is one of a compound of this kind: each element of a list and each key and value of a map
-- has a byte.
abbrev pub Counts : ℕ → ℕ → List ℕ → Type 0
Counts kind n body = (kind ≡ 0xf0) ⊎ (((kind ≡ 0xd0) ⊎ (kind ≡ 0xd1)) × (n ≤ length body))

-- The compound that was opened stands where it was opened, with the count of the writer and what was
-- written after its header as its body, and is all that is written after that place.
abbrev pub Closes : List ℕ → List ℕ → Writer → Writer → Opened → Type 0
Closes old new w w' o =
    (body : List ℕ) → o.start + header o.element + length body ≡ w.at → HasBody old (o.start + header o.element) body
    → length body ≤ 4294967291 → w.count ≤ 4294967295 → length old < 2 ^ 64 → Counts o.kind w.count body
    → (w'.at ≡ o.start + length (compound_at o.element o.kind w.count body)) × StandsAfter old new o.start (compound_at o.element o.kind w.count body)
