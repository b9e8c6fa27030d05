-- What containers convert to. The laws of the conversions cite these relations, and no implementation
-- does.
use Rattle.std.specs.Prelude.{◌≡◌, ◌↔◌, List, Option, Some, None, Result, Ok, Err}
use Rattle.std.specs.List.{AllZip}
use Rattle.amqp_data.specs.Pairs.{entries_of}
use Rattle.amqp_data.specs.declared.ordered_map.OrderedMap.{OrderedMap}
use Rattle.amqp_value.specs.Contents.{map_in}
use Rattle.amqp_value.specs.declared.value.Value.{Value}
use Rattle.amqp_value.specs.declared.try_from.ConvertFault.{ConvertFault}
use Rattle.amqp_value.specs.declared.try_from.ConvertFault.TheVariants.{Unfit}

-- A value without this content is returned unchanged.
abbrev pub ReturnsOthers : {C R : Type 0} → (Value → Option C) → (Value → Result R ConvertFault → Type 0) → Type 0
ReturnsOthers {C} {R} content gives = (v : Value) (r : Result R ConvertFault) → content v ≡ None → gives v r → r ≡ Err (Unfit v)

-- The result is made of the elements of the content, each converted, in order.
abbrev pub ConvertsEach : {C T R : Type 0} → (Value → Option C) → (C → List Value) → (R → List T) → (Value → Result T Value → Type 0) → (Value → Result R ConvertFault → Type 0) → Type 0
ConvertsEach {C} {T} {R} content elements items element_gives gives =
    ((v : Value) (c : C) (made : R) → content v ≡ Some c → gives v (Ok made) ↔ AllZip (λ u x. element_gives u (Ok x)) (elements c) (items made))
    × ReturnsOthers content gives

-- The result is made of the pairs of the map, each key and value converted, in order.
abbrev pub ConvertsPairs : {K X R : Type 0} → (List (K × X) → R → Type 0) → (Value → Result K Value → Type 0) → (Value → Result X Value → Type 0) → (Value → Result R ConvertFault → Type 0) → Type 0
ConvertsPairs {K} {X} {R} Made key_gives value_gives gives =
    ((v : Value) (m : OrderedMap Value Value) (made : R) → map_in v ≡ Some m → gives v (Ok made) ↔ ((done : List (K × X)) × AllZip (λ p e. key_gives p.0 (Ok e.0) × value_gives p.1 (Ok e.1)) (entries_of m) done × Made done made))
    × ReturnsOthers map_in gives
