-- Lists that grow at their end.
use Rattle.std.specs.Prelude.{◌≡◌, List, ◌++◌}

-- The second list is the first one with elements appended.
abbrev pub Extends : {X : Type 0} → List X → List X → Type 0
Extends {X} a b = (rest : List X) × (b ≡ a ++ rest)
