-- The round trip of a scalar through its value.
use Rattle.std.specs.Prelude.{◌≡◌, Option, Some, Result, Ok}
use Rattle.amqp_ser.specs.Tree.{Tree}
use Rattle.amqp_value.specs.TreeOf.{tree_of}
use Rattle.amqp_value.specs.declared.value.Value.{Value}

-- The value made from the scalar has the scalar's tree, and the conversion back can only return the
-- scalar.
abbrev pub ComesBack : {T : Type 0} → (T → Option Tree) → (T → Value → Type 0) → (Value → Result T Value → Type 0) → Type 0
ComesBack {T} tree from_gives try_from_gives =
    (x : T) (v : Value) → from_gives x v → (Some (tree_of v) ≡ tree x) × ((r : Result T Value) → try_from_gives v r → r ≡ Ok x)
