-- The split of a byte string into encoded values (AMQP 1.0 part 1, section 1.2).
use Rattle.std.specs.Prelude.{◌≡◌, ℕ, List, ◌++◌}
use Rattle.std.specs.List.{AllByRecursion, concat}
use Rattle.amqp_frame.specs.EncodedValue.{IsEncodedValue, HasEncodedValue}

-- the bytes are these encoded values, one after another, and a rest that does not begin with one
pub record IsCut (s : List ℕ) (encoded_values : List (List ℕ)) (rest : List ℕ) : Type 0 where
  pub whole : s ≡ concat encoded_values ++ rest
  pub each : AllByRecursion IsEncodedValue encoded_values
  pub no_encoded_value : ¬ HasEncodedValue rest
