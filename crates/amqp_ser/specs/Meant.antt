-- The intended tree of a tree that is serialized under markers or as a descriptor.
use Rattle.std.specs.Prelude.{◌≡◌, Bool, true, false, List, ◌∷◌, Option, Some, None}
use Rattle.std.proofs.Common.{refl}
use Rattle.amqp_ser.specs.Tree.{Tree, scalar, symbol, ulong}
use Rattle.amqp_ser.specs.Marked.{with_marker}
use Rattle.amqp_ser.specs.declared.kind.CompoundKind.{CompoundKind}
use Rattle.amqp_ser.specs.declared.kind.CompoundKind.TheVariants as kinds
use Rattle.amqp_ser.specs.declared.marker.Marker.TheVariants as marker
use Rattle.amqp_ser.specs.declared.pending.Pending.{Pending}
use Rattle.amqp_ser.specs.declared.pending.Pending.TheVariants as pending

-- The tree if it is a ulong or a symbol, as a descriptor must be, and otherwise none.
abbrev pub as_descriptor : Option Tree → Option Tree
as_descriptor (Some (scalar (ulong n))) = Some (scalar (ulong n))
as_descriptor (Some (scalar (symbol bs))) = Some (scalar (symbol bs))
as_descriptor t = None

abbrev pub meant : Pending → Option Tree → Option Tree
meant (pending.Marker m) t = with_marker m t
meant pending.Descriptor t = as_descriptor t
meant pending.Nothing t = None

-- Without a tree there is no intended one.
pub meant_none : (u : Pending) → meant u None ≡ None
meant_none (pending.Marker m) = refl
meant_none pending.Descriptor = refl
meant_none pending.Nothing = refl

-- The intended trees of the parts of a compound: what precedes a single compound applies to its one
-- part.
abbrev pub meant_parts : CompoundKind → Pending → List (Option Tree) → List (Option Tree)
meant_parts kinds.Single u (p ∷ ps) = meant u p ∷ ps
meant_parts k u ps = ps

-- A compound of this kind is valid: a single one always, any kind without a marker, and a list
-- under the markers of lists.
abbrev pub fits : CompoundKind → Pending → Bool
fits kinds.Single u = true
fits k (pending.Marker marker.Other) = true
fits kinds.List (pending.Marker marker.Array) = true
fits kinds.List (pending.Marker marker.Transparent) = true
fits k u = false
