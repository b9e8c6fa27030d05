-- The trees of newtypes with marker names, and the names of descriptors and untyped values.
use Rattle.std.specs.Prelude.{ℕ, List, Option, Some, None, Bool, nat_eq, length, bytes_eq, codes, if◌then◌else◌}
use Rattle.amqp_frame.specs.Whole.{is_encoded_value}
use Rattle.amqp_ser.specs.Tree.{Scalar, long, binary, string, symbol, timestamp, decimal32, decimal64, decimal128, uuid, Tree, scalar, list, array, lazy, transparent}
use Rattle.amqp_ser.specs.declared.marker.Marker.{Marker}
use Rattle.amqp_ser.specs.declared.marker.Marker.TheVariants as marker

-- The marker of a name; `Other` for a name that is not a marker name.
abbrev pub marker_of : List ℕ → Marker
marker_of n =
    if bytes_eq n (codes "__SYMBOL") then marker.Symbol
    else if bytes_eq n (codes "__SYMBOL_REF") then marker.Symbol
    else if bytes_eq n (codes "__TIMESTAMP") then marker.Timestamp
    else if bytes_eq n (codes "__DECIMAL32") then marker.Decimal32
    else if bytes_eq n (codes "__DECIMAL64") then marker.Decimal64
    else if bytes_eq n (codes "__DECIMAL128") then marker.Decimal128
    else if bytes_eq n (codes "__UUID") then marker.Uuid
    else if bytes_eq n (codes "__ARRAY") then marker.Array
    else if bytes_eq n (codes "__TRANSPARENT_VEC") then marker.Transparent
    else if bytes_eq n (codes "__LAZY_VALUE") then marker.Lazy
    else marker.Other

-- The key of the field that is the descriptor of a struct.
abbrev pub is_descriptor_name : List ℕ → Bool
is_descriptor_name n = bytes_eq n (codes "__DESCRIPTOR")

-- The name of an enum whose newtype variants are written as their values, without the index.
abbrev pub is_value_name : List ℕ → Bool
is_value_name n = bytes_eq n (codes "__VALUE")

-- A scalar, if its content has this length.
abbrev pub of_length : ℕ → List ℕ → Scalar → Option Tree
of_length n bs s = if nat_eq (length bs) n then Some (scalar s) else None

-- The lazy tree of these bytes, if they are one encoded value.
abbrev pub of_encoded_value : List ℕ → Option Tree
of_encoded_value bs = if is_encoded_value bs then Some (lazy bs) else None

-- The tree of a marked scalar: a symbol for a string, a timestamp for a long, a decimal or a uuid
-- for a binary of its length, and a lazy tree for a binary that is one encoded value.
abbrev pub marked_scalar : Marker → Scalar → Option Tree
marked_scalar marker.Symbol (string bs) = Some (scalar (symbol bs))
marked_scalar marker.Timestamp (long z) = Some (scalar (timestamp z))
marked_scalar marker.Decimal32 (binary bs) = of_length 4 bs (decimal32 bs)
marked_scalar marker.Decimal64 (binary bs) = of_length 8 bs (decimal64 bs)
marked_scalar marker.Decimal128 (binary bs) = of_length 16 bs (decimal128 bs)
marked_scalar marker.Uuid (binary bs) = of_length 16 bs (uuid bs)
marked_scalar marker.Lazy (binary bs) = of_encoded_value bs
marked_scalar marker.Other s = Some (scalar s)
marked_scalar m s = None

-- The tree of a marked tree: an array or a transparent tree for a list.
abbrev pub marked_tree : Marker → Tree → Option Tree
marked_tree m (scalar s) = marked_scalar m s
marked_tree marker.Array (list ts) = Some (array ts)
marked_tree marker.Transparent (list ts) = Some (transparent ts)
marked_tree marker.Other t = Some t
marked_tree m t = None

-- The tree of a newtype with this marker. It has none if its value has none.
abbrev pub with_marker : Marker → Option Tree → Option Tree
with_marker m None = None
with_marker m (Some t) = marked_tree m t
