-- The position of a tree, and what the position requires of it.
use Rattle.std.specs.Prelude.{ℕ, ◌+◌, List, length, Option, Some, None, Bool, true, false, ◌&&◌, is_some}
use Rattle.amqp_ser.specs.Tree.{Tree}
use Rattle.amqp_ser.specs.Encoding.{encoding, payload, constructor}
use Rattle.amqp_ser.specs.Limits.{is_length}
use Rattle.amqp_ser.specs.Writable.{same_constructor, within_limits, inside, placed}
use Rattle.amqp_ser.specs.Composites.{descriptor_of}
use Rattle.amqp_ser.specs.Marked.{with_marker}
use Rattle.amqp_ser.specs.declared.kind.CompoundKind.{CompoundKind}
use Rattle.amqp_ser.specs.declared.kind.CompoundKind.TheVariants as kind
use Rattle.amqp_ser.specs.declared.marker.Marker.{Marker}
use Rattle.amqp_ser.specs.declared.marker.Marker.TheVariants as marker
use Rattle.amqp_size.specs.WholePosition.{Position}
use Rattle.amqp_size.specs.WholePosition.{Root, InCompound, FirstElement, OtherElement, Descriptor, Value}
use Rattle.amqp_size.specs.declared.position.BasePosition.{BasePosition}
use Rattle.amqp_size.specs.declared.position.BasePosition.TheVariants as base
use Rattle.amqp_size.specs.WholeContext.{Context}
use Rattle.amqp_size.specs.WholeContext as context
use Rattle.amqp_size.specs.declared.scalar_marker.ScalarMarker.{ScalarMarker}
use Rattle.amqp_size.specs.declared.scalar_marker.ScalarMarker.TheVariants as scalar_marker
use Rattle.amqp_size.specs.declared.resolved_kind.ResolvedKind.{ResolvedKind}
use Rattle.amqp_size.specs.declared.resolved_kind.ResolvedKind.TheVariants as resolved_kind

abbrev pub position_of : Context → Position
position_of (context.Unmarked p) = p
position_of (context.Array p) = p
position_of (context.Transparent p) = p
position_of (context.Scalar m p) = p
position_of (context.Nothing p) = p

abbrev pub the_marker : ScalarMarker → Marker
the_marker scalar_marker.Symbol = marker.Symbol
the_marker scalar_marker.Timestamp = marker.Timestamp
the_marker scalar_marker.Decimal32 = marker.Decimal32
the_marker scalar_marker.Decimal64 = marker.Decimal64
the_marker scalar_marker.Decimal128 = marker.Decimal128
the_marker scalar_marker.Uuid = marker.Uuid
the_marker scalar_marker.Lazy = marker.Lazy

-- The tree of the value, if this tree is serialized under the pending marker.
abbrev pub meant : Context → Option Tree → Option Tree
meant (context.Unmarked p) t = t
meant (context.Array p) t = with_marker marker.Array t
meant (context.Transparent p) t = with_marker marker.Transparent t
meant (context.Scalar m p) t = with_marker (the_marker m) t
meant (context.Nothing p) t = None

-- The position of a described value, without the descriptors.
abbrev pub base_position : BasePosition → Position
base_position base.Root = Root
base_position base.InCompound = InCompound
base_position base.FirstElement = FirstElement
base_position (base.OtherElement c) = OtherElement c

-- The position of the serializer between steps and after an error.
abbrev pub without_prefix : Position → Position
without_prefix Root = Root
without_prefix InCompound = InCompound
without_prefix FirstElement = FirstElement
without_prefix (OtherElement c) = OtherElement c
without_prefix Descriptor = Descriptor
without_prefix (Value h b) = base_position b

-- A described value is accepted: not as an array element.
abbrev pub takes_described : BasePosition → Bool
takes_described base.Root = true
takes_described base.InCompound = true
takes_described base.FirstElement = false
takes_described (base.OtherElement c) = false

-- The position accepts the tree: transparent trees only at the root, array elements of one
-- constructor, and a ulong or a symbol as a descriptor.
abbrev pub suits : Position → Tree → Bool
suits Root t = placed t
suits InCompound t = inside t
suits FirstElement t = is_some (constructor t) && inside t
suits (OtherElement c) t = same_constructor (Some c) (constructor t) && inside t
suits Descriptor t = is_some (descriptor_of (Some t))
suits (Value h b) t = takes_described b && inside t

abbrev pub element : Option ℕ → Position
element None = FirstElement
element (Some c) = OtherElement c

-- The position after the tree.
abbrev pub next : Position → Tree → Position
next Root t = Root
next InCompound t = InCompound
next FirstElement t = element (constructor t)
next (OtherElement c) t = OtherElement c
next Descriptor t = Descriptor
next (Value h b) t = base_position b

-- The bytes at this position: the complete encoding, or the payload of an array element.
abbrev pub form : Position → Tree → List ℕ
form Root t = encoding t
form InCompound t = encoding t
form FirstElement t = payload t
form (OtherElement c) t = payload t
form Descriptor t = encoding t
form (Value h b) t = encoding t

-- The length at this position, including the descriptors before the value.
abbrev pub extent : Position → Tree → ℕ
extent Root t = length (encoding t)
extent InCompound t = length (encoding t)
extent FirstElement t = length (payload t)
extent (OtherElement c) t = length (payload t)
extent Descriptor t = length (encoding t)
extent (Value h b) t = h + length (encoding t)

-- The tree is within the limits, including the descriptors before it.
abbrev pub within_limits_at : Position → Tree → Bool
within_limits_at Root t = within_limits t
within_limits_at InCompound t = within_limits t
within_limits_at FirstElement t = within_limits t
within_limits_at (OtherElement c) t = within_limits t
within_limits_at Descriptor t = within_limits t
within_limits_at (Value h b) t = is_length (h + length (encoding t)) && within_limits t

-- The position of the value after a descriptor of this length. A described value is not a
-- descriptor.
abbrev pub described_position : Position → ℕ → Option Position
described_position Root n = Some (Value (n + 1) base.Root)
described_position InCompound n = Some (Value (n + 1) base.InCompound)
described_position FirstElement n = Some (Value (n + 1) base.FirstElement)
described_position (OtherElement c) n = Some (Value (n + 1) (base.OtherElement c))
described_position Descriptor n = None
described_position (Value h b) n = Some (Value (h + (n + 1)) b)

abbrev pub plainly : Option Position → Option Context
plainly None = None
plainly (Some p) = Some (context.Unmarked p)

-- No marker accepts a described value.
abbrev pub described_context : Context → ℕ → Option Context
described_context (context.Unmarked p) n = plainly (described_position p n)
described_context (context.Array p) n = Some (context.Nothing p)
described_context (context.Transparent p) n = Some (context.Nothing p)
described_context (context.Scalar m p) n = Some (context.Nothing p)
described_context (context.Nothing p) n = Some (context.Nothing p)

-- The length of the descriptors before a value at this position.
abbrev pub prefix_len_of : Position → ℕ
prefix_len_of Root = 0
prefix_len_of InCompound = 0
prefix_len_of FirstElement = 0
prefix_len_of (OtherElement c) = 0
prefix_len_of Descriptor = 0
prefix_len_of (Value h b) = h

-- What a compound of this kind is encoded as.
abbrev pub resolved_kind_of : Context → CompoundKind → ResolvedKind
resolved_kind_of u kind.Single = resolved_kind.Single
resolved_kind_of (context.Unmarked p) kind.List = resolved_kind.List
resolved_kind_of (context.Unmarked p) kind.Map = resolved_kind.Map
resolved_kind_of (context.Unmarked p) (kind.Variant i) = resolved_kind.Variant i
resolved_kind_of (context.Unmarked p) (kind.NewtypeVariant i) = resolved_kind.NewtypeVariant i
resolved_kind_of (context.Array p) kind.List = resolved_kind.Array
resolved_kind_of (context.Transparent p) kind.List = resolved_kind.Transparent
resolved_kind_of u k = resolved_kind.Refused

abbrev pub is_array : ResolvedKind → Bool
is_array resolved_kind.Array = true
is_array s = false

-- The compound collects its parts in one body.
abbrev pub is_gathered : ResolvedKind → Bool
is_gathered resolved_kind.Transparent = false
is_gathered resolved_kind.Single = false
is_gathered s = true

-- The position of the first part.
abbrev pub inner_context_of : ResolvedKind → Context → Context
inner_context_of resolved_kind.Array u = context.Unmarked FirstElement
inner_context_of resolved_kind.Transparent u = context.Unmarked Root
inner_context_of resolved_kind.Single u = u
inner_context_of s u = context.Unmarked InCompound

-- The greatest total size of the parts.
abbrev pub limit_of : ResolvedKind → ℕ
limit_of resolved_kind.Transparent = 18446744073709551615
limit_of resolved_kind.Single = 18446744073709551615
limit_of s = 4294967291
