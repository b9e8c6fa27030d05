-- Bytes that a call appends to what a writer has written.
use Rattle.std.specs.Prelude.{◌≡◌, ℕ, ◌+◌, ◌<◌, ◌≤◌, ◌^◌, List, ◌∷◌, ◌++◌, length, Bool, true, false, if◌then◌else◌, ◌==◌, ◌-◌}
use Rattle.std.specs.Int.{w32, to_be_bytes}
use Rattle.amqp_ser.specs.Tree.{Scalar, decimal32, decimal64, decimal128, uuid, binary, string, symbol}
use Rattle.amqp_ser.specs.Scalars.{scalar_form, scalar_payload, sized}
use Rattle.amqp_writer.specs.Filled.{FitsAt}
use Rattle.amqp_writer.specs.declared.writer.Writer.{Writer}

-- These bytes stand after those that were written, if the buffer has room for them, and are counted.
abbrev pub Appends : List ℕ → List ℕ → Writer → Writer → List ℕ → Type 0
Appends out out' w w' bytes = FitsAt out out' w.at bytes × (w.at + length bytes < 2 ^ 64 → w'.at ≡ w.at + length bytes)

-- The room that is needed covers what is written, does not become less, and a fault stays.
abbrev pub Keeps : Writer → Writer → Type 0
Keeps w w' = (w'.at ≤ w'.most) × (w.most ≤ w'.most) × (w'.fault ≡ 0 → w.fault ≡ 0)

-- The same values are written, in the same compound.
abbrev pub HasSame : Writer → Writer → Type 0
HasSame w w' = (w'.count ≡ w.count) × (w'.element ≡ w.element) × (w'.described ≡ w.described)

-- A value is counted, and no descriptor waits for one.
abbrev pub CountsOne : Writer → Writer → Type 0
CountsOne w w' = (w.count + 1 < 2 ^ 64 → w'.count ≡ w.count + 1) × (w'.element ≡ w.element) × (w'.described ≡ false)

-- A value with these bytes is appended and counted.
abbrev pub Puts : List ℕ → List ℕ → Writer → Writer → List ℕ → Type 0
Puts out out' w w' bytes = Appends out out' w w' bytes × Keeps w w' × CountsOne w w'

-- A descriptor with these bytes is appended, and waits for its value.
abbrev pub Describes : List ℕ → List ℕ → Writer → Writer → List ℕ → Type 0
Describes out out' w w' bytes = Appends out out' w w' bytes × Keeps w w' × (w'.count ≡ w.count) × (w'.element ≡ w.element) × (w'.described ≡ true)

-- The bytes of a scalar, outside an array and as an element.
abbrev pub scalar_at : ℕ → Scalar → List ℕ
scalar_at element s = if element == 0 then scalar_form s else scalar_payload s

-- A code, unless in an array, and the bytes after it.
abbrev pub after_code : ℕ → ℕ → List ℕ → List ℕ
after_code element code bytes = if element == 0 then code ∷ bytes else bytes

-- Bytes after their length, outside an array and as an element.
abbrev pub sized_at : ℕ → ℕ → List ℕ → List ℕ
sized_at element kind bytes = if element == 0 then sized (kind - 16) kind bytes else to_be_bytes w32 (length bytes) ++ bytes

-- The scalar of these bytes: a binary, a string, a symbol, a decimal, or else a uuid.
abbrev pub content_of : ℕ → List ℕ → Scalar
content_of kind bytes =
    if kind == 0xb0 then binary bytes else if kind == 0xb1 then string bytes else if kind == 0xb3 then symbol bytes
    else if kind == 0x74 then decimal32 bytes else if kind == 0x84 then decimal64 bytes else if kind == 0x94 then decimal128 bytes
    else uuid bytes
