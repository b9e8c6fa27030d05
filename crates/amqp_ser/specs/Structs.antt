-- Structs: the body that the name determines, and the descriptor before it (AMQP 1.0 part 1,
-- sections 1.1.2 and 1.4).
use Rattle.std.specs.Prelude.{ℕ, List, [], ◌∷◌, Option, Some, None, Bool, true, false, ◌||◌, bytes_eq, codes, if◌then◌else◌}
use Rattle.amqp_ser.specs.Tree.{Tree, scalar, string}
use Rattle.amqp_ser.specs.Compounds.{tree_of_parts}
use Rattle.amqp_ser.specs.Composites.{as_described, descriptor_of}
use Rattle.amqp_ser.specs.Marked.{is_descriptor_name, is_value_name}
use Rattle.amqp_ser.specs.declared.struct_encoding.StructEncoding.{StructEncoding}
use Rattle.amqp_ser.specs.declared.struct_encoding.StructEncoding.TheVariants as form
use Rattle.amqp_ser.specs.declared.kind.CompoundKind.{CompoundKind}
use Rattle.amqp_ser.specs.declared.kind.CompoundKind.TheVariants as kind

abbrev pub is_basic_name : List ℕ → Bool
is_basic_name n = bytes_eq n (codes "__DESCRIBED_BASIC")

abbrev pub is_list_name : List ℕ → Bool
is_list_name n = bytes_eq n (codes "__DESCRIBED_LIST")

abbrev pub is_map_name : List ℕ → Bool
is_map_name n = bytes_eq n (codes "__DESCRIBED_MAP")

-- The fields of a struct are one value, a map from their names, or a list.
abbrev pub struct_encoding : List ℕ → StructEncoding
struct_encoding n = if is_basic_name n then form.Single else if is_map_name n then form.Map else form.List

-- The fields of a tuple struct are one value or a list.
abbrev pub single_or_list : Bool → StructEncoding
single_or_list true = form.Single
single_or_list false = form.List

-- The first field of a tuple struct with this name is its descriptor.
abbrev pub is_tagged : List ℕ → Bool
is_tagged n = is_basic_name n || is_list_name n

abbrev pub form_kind : StructEncoding → CompoundKind
form_kind form.List = kind.List
form_kind form.Map = kind.Map
form_kind form.Single = kind.Single

-- The kind that is open: a single compound until the first field is accepted, then the body.
abbrev pub open_kind : Bool → StructEncoding → CompoundKind
open_kind false b = kind.Single
open_kind true b = form_kind b

-- Named fields are in a map, others in a list.
abbrev pub fields_kind : Bool → CompoundKind
fields_kind false = kind.List
fields_kind true = kind.Map

-- The parts that a field adds: its value, and in a map its name before it.
abbrev pub field_parts : Bool → List ℕ → Option Tree → List (Option Tree)
field_parts false key t = t ∷ []
field_parts true key t = Some (scalar (string key)) ∷ (t ∷ [])

-- A second or late descriptor, or a second field of a single value.
abbrev pub is_misplaced : StructEncoding → Bool → Bool → Bool → Bool
is_misplaced b described opened true = described || opened
is_misplaced form.Single described opened false = opened
is_misplaced b described opened false = false

-- A body after a descriptor, if there is one.
abbrev pub optionally_described : Option (Option Tree) → Option Tree → Option Tree
optionally_described None t = t
optionally_described (Some d) t = as_described (descriptor_of d) t

-- The tree of a newtype variant: its value in an enum named `__VALUE`, and none in an enum named
-- `__DESCRIPTOR`.
abbrev pub named_variant : List ℕ → ℕ → Option Tree → Option Tree
named_variant n i t = if is_value_name n then t else if is_descriptor_name n then None else tree_of_parts (kind.NewtypeVariant i) (t ∷ [])

-- A compound after a descriptor, if there is one: each result that is permitted for the compound is
-- permitted for the described value.
unfoldable pub HasDescribed : {S H R : Type 0} → (S → Option Tree → R → S → Type 0) → (S → CompoundKind → S → H → List (Option Tree) → Type 0) →
    S → Option (Option Tree) → CompoundKind → S → H → List (Option Tree) → Type 0
HasDescribed {S} {H} {R} permits has start prefix k now compound ps =
    (mid : S) × (has mid k now compound ps × ((t : Option Tree) (r : R) (after : S) → permits mid t r after → permits start (optionally_described prefix t) r after))
