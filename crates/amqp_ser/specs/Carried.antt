-- The trees of options, arrays, transparent vectors and descriptors (AMQP 1.0 part 1, sections 1.2,
-- 1.6.1 and 1.6.24).
use Rattle.std.specs.Prelude.{List, Option, Some, None, map}
use Rattle.amqp_data.specs.Text.{symbol_text}
use Rattle.amqp_data.specs.declared.descriptor.Descriptor.{Descriptor}
use Rattle.amqp_data.specs.declared.descriptor.Descriptor.TheVariants as descriptor
use Rattle.amqp_ser.specs.Tree as tree
use Rattle.amqp_ser.specs.Tree.{Tree, scalar, null}
use Rattle.amqp_ser.specs.Compounds.{tree_of_parts}
use Rattle.amqp_ser.specs.Marked.{with_marker}
use Rattle.amqp_ser.specs.declared.kind.CompoundKind.TheVariants as kind
use Rattle.amqp_ser.specs.declared.marker.Marker.TheVariants as marker

-- `None` is null, and `Some` has the tree of its value.
abbrev pub optional : {T : Type 0} → (T → Option Tree) → Option T → Option Tree
optional f None = Some (scalar null)
optional f (Some x) = f x

-- The array of the items.
abbrev pub array_of : {T : Type 0} → (T → Option Tree) → List T → Option Tree
array_of f items = with_marker marker.Array (tree_of_parts kind.List (map f items))

-- The transparent tree of the items.
abbrev pub transparent_of : {T : Type 0} → (T → Option Tree) → List T → Option Tree
transparent_of f items = with_marker marker.Transparent (tree_of_parts kind.List (map f items))

-- The name or the code of a descriptor.
abbrev pub descriptor_content : Descriptor → tree.Descriptor
descriptor_content (descriptor.Name s) = tree.name (symbol_text s)
descriptor_content (descriptor.Code n) = tree.code n
