-- The encodings without an array without elements.
use Rattle.std.specs.Prelude.{◌≡◌, ℕ, List, Bool, true, false, Option, Some, None, Result, Err}
use Rattle.amqp_data.specs.declared.error.Error.{Error}
use Rattle.amqp_data.specs.declared.error.Error.TheVariants.{InvalidValue}
use Rattle.amqp_ser.specs.Tree.{Tree}
use Rattle.amqp_ser.specs.SizeAndBytes.{AreBytesOf}
use Rattle.amqp_wire.specs.EmptyArrays.{has_empty_array}

abbrev pub has_one : Option Tree → Bool
has_one None = false
has_one (Some t) = has_empty_array t

-- The results of `to_vec`, but `InvalidValue` for a tree with an array without elements.
abbrev pub AreStrictBytesOf : Option Tree → Result (List ℕ) Error → Type 0
AreStrictBytesOf o r = (has_one o ≡ true → r ≡ Err InvalidValue) × (has_one o ≡ false → AreBytesOf o r)
