-- A place that a function returns.
use Rattle.std.specs.Prelude.{◌≡◌, ℕ}
use Rattle.amqp_decode.specs.Places as places
use Rattle.amqp_decode.specs.declared.scalar_check.PlaceFromEnd.{PlaceFromEnd}

abbrev pub IsAt : PlaceFromEnd → places.PlaceFromEnd → Type 0
IsAt from_end place = (from_end.left ≡ place.0) × (from_end.levels ≡ place.1)
