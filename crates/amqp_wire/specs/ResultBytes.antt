-- The bytes of a vector, or the error.
use Rattle.std.specs.Prelude.{ℕ, List, Result, Ok, Err, Vec}
use Rattle.std.specs.declared.alloc.Global.{Global}
use Rattle.amqp_data.specs.declared.error.Error.{Error}

abbrev pub result_bytes : Result (Vec ℕ Global) Error → Result (List ℕ) Error
result_bytes (Ok bytes) = Ok bytes.items
result_bytes (Err e) = Err e
