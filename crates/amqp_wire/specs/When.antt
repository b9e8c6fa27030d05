-- What a sink promises of the values that are added to it.
use Rattle.std.specs.Prelude.{Bool, true, false}

-- Whether the values are promised to be in range, and which sinks have all bytes that were added.
pub record Promises (K : Type 0) : Type 1 where
  pub ranges : Bool
  pub sound : K → Type 0

-- A fact that only some sinks promise.
abbrev pub When : Bool → Type 0 → Type 0
When true X = X
When false X = Unit {0}
