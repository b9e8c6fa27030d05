-- The kinds of trees that the calls of a deserializer accept (AMQP 1.0 part 1, section 1.6).
use Rattle.std.specs.Prelude.{◌≡◌, ◌⊎◌, Bool, true, false}
use Rattle.amqp_ser.specs.Tree as tree
use Rattle.amqp_ser.specs.Tree.{Tree, Trees, Pairs, Scalar, Descriptor, scalar, list, array, map, described}
use Rattle.amqp_ser.specs.declared.marker.Marker.{Marker}
use Rattle.amqp_ser.specs.declared.marker.Marker.TheVariants as marker

-- A scalar of this kind, a list, an array, a map, and a described value.
abbrev pub IsOf : {A : Type 0} → (A → Scalar) → Tree → Type 0
IsOf {A} kind t = (a : A) × (t ≡ scalar (kind a))

abbrev pub IsList : Tree → Type 0
IsList t = (ts : Trees) × (t ≡ list ts)

abbrev pub IsArray : Tree → Type 0
IsArray t = (ts : Trees) × (t ≡ array ts)

abbrev pub IsMap : Tree → Type 0
IsMap t = (ps : Pairs) × (t ≡ map ps)

abbrev pub IsDescribed : Tree → Type 0
IsDescribed t = (d : Descriptor) × (u : Tree) × (t ≡ described d u)

-- What is read for a struct, an identifier, a descriptor and a newtype with a marker.
abbrev pub IsStruct : Bool → Tree → Type 0
IsStruct true = IsDescribed
IsStruct false = IsList

abbrev pub IsIdentifier : Tree → Type 0
IsIdentifier t = IsOf tree.uint t ⊎ IsOf tree.symbol t

abbrev pub IsDescriptor : Tree → Type 0
IsDescriptor t = IsOf tree.ulong t ⊎ IsOf tree.symbol t

abbrev pub IsMarked : Marker → Tree → Type 0
IsMarked marker.Symbol = IsOf tree.symbol
IsMarked marker.Timestamp = IsOf tree.timestamp
IsMarked marker.Decimal32 = IsOf tree.decimal32
IsMarked marker.Decimal64 = IsOf tree.decimal64
IsMarked marker.Decimal128 = IsOf tree.decimal128
IsMarked marker.Uuid = IsOf tree.uuid
IsMarked marker.Array = IsArray
IsMarked marker.Transparent = λ t. Unit {0}
IsMarked marker.Lazy = λ t. Unit {0}
IsMarked marker.Other = λ t. Unit {0}
