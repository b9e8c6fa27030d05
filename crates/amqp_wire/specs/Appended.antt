-- The encoding of a value appended to a buffer.
use Rattle.std.specs.Prelude.{◌≡◌, ℕ, List, ◌++◌, Option, Result, Ok, Err}
use Rattle.amqp_data.specs.declared.error.Error.{Error}
use Rattle.amqp_ser.specs.Tree.{Tree}
use Rattle.amqp_ser.specs.SizeAndBytes.{AreBytesOf}

-- The buffer has what it had, and then the bytes of the tree; after an error it has what it had.
abbrev pub AppendsBytesOf : Option Tree → List ℕ → Result (Unit {0}) Error → List ℕ → Type 0
AppendsBytesOf o old (Ok u) new = (bytes : List ℕ) × ((new ≡ old ++ bytes) × AreBytesOf o (Ok bytes))
AppendsBytesOf o old (Err e) new = (new ≡ old) × AreBytesOf o (Err e)
