-- The lines printed for the encoded values of a byte string (AMQP 1.0 part 1, section 1.2).
use Rattle.std.specs.Prelude.{ℕ, List, [], ◌∷◌, ◌++◌, length}
use Rattle.std.specs.List.{flat_map}
use Rattle.std.specs.Fmt.{decimal}
use Rattle.amqp_data.specs.Hexadecimal.{hex}

-- The line of an encoded value: its length, a space, its bytes in hexadecimal, and 0A.
unfoldable pub cut_line : List ℕ → List ℕ
cut_line encoded = decimal (length encoded) ++ 32 ∷ hex encoded ++ 10 ∷ []

-- The lines of all encoded values, in order.
abbrev pub cut_lines : List (List ℕ) → List ℕ
cut_lines encoded_values = flat_map cut_line encoded_values
