-- Printable texts.
use Rattle.std.proofs.Common.{◌≡◌, ℕ, List, ap, ◌∙◌}
use Rattle.std.proofs.lemmas.Str.{chars-IsAscii}
use Rattle.std.specs.List.{flat_map}
use Rattle.std.specs.Str.{IsAscii}
use Rattle.amqp_dump.specs.Safe.{safe, safe_char}

-- a printable text is shown as it is
pub safe_same : (s : List ℕ) → IsAscii s → flat_map safe_char s ≡ s → safe s ≡ s
safe_same s ascii same = ap (flat_map safe_char) (chars-IsAscii s ascii) ∙ same
