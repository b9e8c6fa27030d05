-- A value that is appended to bytes.
use Rattle.std.specs.Prelude.{◌≡◌, ℕ, List, ◌++◌, Option, Some, None, true}
use Rattle.amqp_ser.specs.Tree.{Tree}
use Rattle.amqp_ser.specs.Encoding.{encoding}
use Rattle.amqp_ser.specs.Ranged.{IsRanged}
use Rattle.amqp_ser.specs.Writable.{writable}

-- A writable tree was appended.
abbrev pub IsWritten : Option Tree → List ℕ → List ℕ → Type 0
IsWritten None a b = ⊥
IsWritten (Some t) a b = (writable t ≡ true) × (b ≡ a ++ encoding t)

-- The tree is in range, if there is one.
abbrev pub IsInRange : Option Tree → Type 0
IsInRange None = Unit {0}
IsInRange (Some t) = IsRanged t
