-- The permitted results for a tree, or for none: the bytes, if they are one encoded value.
use Rattle.std.specs.Prelude.{◌≡◌, ◌⊎◌, ℕ, List, true, Option, Some, None, Result, Ok, Err}
use Rattle.amqp_data.specs.declared.error.Error.{Error}
use Rattle.amqp_data.specs.declared.error.Error.TheVariants as error
use Rattle.amqp_frame.specs.EncodedValue.{IsEncodedValue}
use Rattle.amqp_ser.specs.Ranged.{IsRanged}
use Rattle.amqp_ser.specs.Tree.{Tree, is_transparent}
use Rattle.amqp_ser.specs.Encoding.{encoding}
use Rattle.amqp_ser.specs.SizeAndBytes.{refuses_none, RefusesTree}
use Rattle.amqp_ser.specs.Writable.{writable}

-- `TooLong` only if a limit is exceeded; `InvalidValue` only for another reason, or if the root is
-- transparent and the bytes are not one encoded value.
abbrev pub RefusesLazy : Tree → Error → Type 0
RefusesLazy t error.InvalidValue = RefusesTree t error.InvalidValue ⊎ ((is_transparent t ≡ true) × ¬ IsEncodedValue (encoding t))
RefusesLazy t e = RefusesTree t e

-- The bytes, if and only if the tree is writable and they are one encoded value, unless memory runs
-- out. The tree is then in range.
abbrev pub IsLazyOf : Option Tree → Result (List ℕ) Error → Type 0
IsLazyOf None (Ok bs) = ⊥
IsLazyOf (Some t) (Ok bs) = (writable t ≡ true) × (bs ≡ encoding t) × IsEncodedValue (encoding t) × IsRanged t
IsLazyOf t (Err error.OutOfMemory) = Unit {0}
IsLazyOf None (Err e) = refuses_none e
IsLazyOf (Some t) (Err e) = RefusesLazy t e
