-- The bytes of a value written.
use Rattle.std.specs.Prelude.{◌≡◌, ℕ, ◌⊎◌, List, Option, Result, Ok, Err}
use Rattle.std.specs.Io.KnownBytes.{Keeps, Appends}
use Rattle.amqp_data.specs.declared.error.Error.{Error}
use Rattle.amqp_data.specs.declared.error.Error.TheVariants.{OutOfMemory, Io}
use Rattle.amqp_ser.specs.Tree.{Tree}
use Rattle.amqp_ser.specs.SizeAndBytes.{AreBytesOf}
use Rattle.serde_amqp.specs.Writer.{TakesPrefix}

-- The bytes of the tree were written. On an error nothing was written and there are no such bytes,
-- or the writer failed after a prefix of them.
abbrev pub PutsBytesOf : Option Tree → Result (Unit {0}) Error → Option (List ℕ) → Option (List ℕ) → Type 0
PutsBytesOf o (Ok u) old new = (bytes : List ℕ) × AreBytesOf o (Ok bytes) × Appends old new bytes
PutsBytesOf o (Err e) old new =
    (AreBytesOf o (Err e) × Keeps old new)
    ⊎ ((bytes : List ℕ) × AreBytesOf o (Ok bytes) × TakesPrefix old new bytes × ((e ≡ OutOfMemory) ⊎ (e ≡ Io)))
