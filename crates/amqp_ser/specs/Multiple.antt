-- The tree of a field that allows several values (AMQP 1.0 part 1, section 1.4).
use Rattle.std.specs.Prelude.{Option, Some, List, length, ◌==◌, if◌then◌else◌}
use Rattle.amqp_data.specs.Items.{array_items}
use Rattle.amqp_data.specs.declared.multiple.Multiple.{Multiple}
use Rattle.amqp_data.specs.declared.multiple.Multiple.TheVariants.{One, Many}
use Rattle.amqp_ser.specs.Carried.{array_of}
use Rattle.amqp_ser.specs.Tree.{Tree, scalar, null}

-- Null for no values, and otherwise the array of the values.
abbrev pub of_many : {T : Type 0} → (T → Option Tree) → List T → Option Tree
of_many f xs = if length xs == 0 then Some (scalar null) else array_of f xs

-- The value, or the array of the values.
abbrev pub of_multiple : {T : Type 0} → (T → Option Tree) → Multiple T → Option Tree
of_multiple f (One x) = f x
of_multiple f (Many xs) = of_many f (array_items xs)
