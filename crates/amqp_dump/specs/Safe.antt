-- Texts without the characters that a terminal takes as commands.
use Rattle.std.specs.Prelude.{ℕ, Bool, List, ◌++◌, ◌&&◌, ◌||◌, ◌==◌, nat_le, nat_lt, encode_utf8, if◌then◌else◌}
use Rattle.std.specs.List.{flat_map}
use Rattle.std.specs.Str.{chars}
use Rattle.amqp_value.specs.Text.{code_escaped}

-- from the first number to the second
abbrev pub is_between : ℕ → ℕ → ℕ → Bool
is_between low high c = nat_le low c && nat_le c high

-- a control character, or one that changes the direction of a text or its lines
abbrev pub is_command : ℕ → Bool
is_command c =
    nat_lt c 32 || (is_between 0x7f 0x9f c || (c == 0x61c || (is_between 0x200e 0x200f c
    || (is_between 0x2028 0x202e c || (is_between 0x2066 0x2069 c || c == 0xfeff)))))

-- a character as it is shown: a command is escaped, as `\u{1b}`
abbrev pub safe_char : ℕ → List ℕ
safe_char c = if is_command c then code_escaped c else encode_utf8 c

-- a text, given by its UTF-8 bytes, as it is shown
abbrev pub safe : List ℕ → List ℕ
safe s = flat_map safe_char (chars s)
