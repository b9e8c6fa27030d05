-- Short ASCII texts: fewer than 256 characters, each of ASCII.
use Rattle.std.specs.Prelude.{ℕ, List, [], ◌∷◌, Bool, true, ◌&&◌, nat_lt, length, if◌then◌else◌}

abbrev pub are_ascii : List ℕ → Bool
are_ascii [] = true
are_ascii (b ∷ bs) = nat_lt b 128 && are_ascii bs

abbrev pub is_short_ascii : List ℕ → Bool
is_short_ascii bs = are_ascii bs && nat_lt (length bs) 256

-- The text if it is short and ASCII, and otherwise the empty text.
abbrev pub short_ascii : List ℕ → List ℕ
short_ascii bs = if is_short_ascii bs then bs else []
