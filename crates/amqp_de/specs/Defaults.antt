-- Fields that have a default, which is read if the field is absent or null
-- (AMQP 1.0 part 1, section 1.4).
use Rattle.std.specs.Prelude.{◌≡◌, ◌⊎◌, Option, Some, None}
use Rattle.amqp_ser.specs.Tree.{Tree, scalar, null}

-- Null is read as the default, and any other tree as a value.
unfoldable pub ReadsOr : {T : Type 0} → T → (Tree → T → Type 0) → Tree → T → Type 0
ReadsOr d R t x = ((t ≡ scalar null) × (x ≡ d)) ⊎ ((¬ (t ≡ scalar null)) × R t x)

-- A value whose image is null is not restorable, because null is read as the default.
abbrev pub RestorableDefaulted : {T : Type 0} → (T → Tree) → (T → Type 0) → T → Type 0
RestorableDefaulted image P x = (¬ (image x ≡ scalar null)) × P x

-- The value, or another one if it is absent.
abbrev pub value_or : {T : Type 0} → T → Option T → T
value_or d None = d
value_or d (Some x) = x
