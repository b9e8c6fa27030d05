-- An answer that says where bytes have their first fault.
use Rattle.std.specs.Prelude.{◌≡◌, ℕ, List, Option, Some, None}
use Rattle.amqp_decode.specs.Places.{place_of}
use Rattle.amqp_decode.specs.declared.located.Place.{Place}

-- It is the place of the first fault.
abbrev pub IsPlace : Place → ℕ → List ℕ → Type 0
IsPlace p depth bytes = (p.offset ≡ (place_of depth bytes).0) × (p.depth ≡ (place_of depth bytes).1)

-- There is a place, and it is that of the first fault.
abbrev pub IsPlaced : Option Place → ℕ → List ℕ → Type 0
IsPlaced None depth bytes = ⊥
IsPlaced (Some p) depth bytes = IsPlace p depth bytes
