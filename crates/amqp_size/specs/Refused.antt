-- Why a pass fails, and the error that is returned for it.
use Rattle.std.specs.Prelude.{ℕ, Result, Ok, Err}
use Rattle.amqp_data.specs.declared.error.Error.{Error}
use Rattle.amqp_data.specs.declared.error.Error.TheVariants as error
use Rattle.amqp_size.specs.declared.walk_error.WalkError.{WalkError}
use Rattle.amqp_size.specs.declared.walk_error.WalkError.TheVariants as walk_error

abbrev pub error_of : WalkError → Error
error_of walk_error.OutOfMemory = error.OutOfMemory
error_of walk_error.TooLong = error.TooLong
error_of walk_error.InvalidValue = error.InvalidValue

-- A result as public functions return it.
abbrev pub told : Result ℕ WalkError → Result ℕ Error
told (Ok n) = Ok n
told (Err e) = Err (error_of e)

-- If there is no tree, the error is `TooLong` or `InvalidValue`.
abbrev pub refuses_none : WalkError → Type 0
refuses_none walk_error.TooLong = Unit {0}
refuses_none walk_error.InvalidValue = Unit {0}
refuses_none walk_error.OutOfMemory = ⊥
