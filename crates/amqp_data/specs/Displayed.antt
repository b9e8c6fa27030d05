-- The displayed text of symbols and uuids (AMQP 1.0 part 1, sections 1.6.18 and 1.6.21).
use Rattle.std.specs.Prelude.{ℕ, List, ◌++◌, codes, drop, take}
use Rattle.amqp_data.specs.Hexadecimal.{hex}

-- a symbol with this text, such as `:amqp`
abbrev pub displayed_symbol : List ℕ → List ℕ
displayed_symbol text = codes ":" ++ text

-- a hyphen and the digits of `count` bytes of a uuid, from the offset `from`
abbrev pub uuid_group : List ℕ → ℕ → ℕ → List ℕ
uuid_group bytes from count = codes "-" ++ hex (take count (drop from bytes))

-- a uuid with these 16 bytes: groups of 8, 4, 4, 4 and 12 digits
abbrev pub displayed_uuid : List ℕ → List ℕ
displayed_uuid bytes =
    hex (take 4 bytes) ++ (uuid_group bytes 4 2 ++ (uuid_group bytes 6 2 ++ (uuid_group bytes 8 2 ++ uuid_group bytes 10 6)))
