-- The escapes of a string, byte by byte: each byte of a character that needs an escape is ASCII.
use Rattle.std.specs.Prelude.{ℕ, List, [], ◌∷◌, if◌then◌else◌, nat_lt}
use Rattle.amqp_value.specs.Text.{string_escaped}

-- A byte of a string between double quotes.
abbrev pub byte_escaped : ℕ → List ℕ
byte_escaped b = if nat_lt b 128 then string_escaped b else b ∷ []
