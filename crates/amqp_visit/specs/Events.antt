-- The events that are reported to a visitor, and the trees that each event reports
-- (AMQP 1.0 part 1, section 1.6).
use Rattle.std.specs.Prelude.{◌≡◌, ◌≢◌, ◌⊎◌, ◌||◌, ℕ, ℤ, Bool, true, false, List, [], ◌∷◌}
use Rattle.std.specs.Prelude.{Option, Some, None, Result, MatchResult, bytes_eq, codes, string_bytes, if◌then◌else◌}
use Rattle.amqp_data.specs.Fixed.{f32_bits, f64_bits}
use Rattle.amqp_data.specs.Items.{byte_buf_bytes}
use Rattle.amqp_data.specs.declared.error.Error.{Error}
use Rattle.amqp_ser.specs.Carried.{descriptor_content}
use Rattle.amqp_ser.specs.Tree as tree
use Rattle.amqp_ser.specs.Tree.{Tree, Trees, Pairs, Scalar, Descriptor, scalar, list, array, map, described}
use Rattle.amqp_ser.specs.declared.marker.Marker.{Marker}
use Rattle.amqp_ser.specs.declared.marker.Marker.TheVariants as marker
use Rattle.amqp_ser.specs.Encoding.{encoding}
use Rattle.amqp_ser.specs.Marked.{marker_of}
use Rattle.amqp_ser.specs.Structs.{is_basic_name, is_list_name, is_map_name}
use Rattle.amqp_ser.specs.Writable.{writable}
use Rattle.amqp_value.specs.FormatCode.{code_of_kind}
use Rattle.amqp_value.specs.TreeOf.{tree_of}
use Rattle.amqp_de.specs.Values.{elements_in, entries_in}
use Rattle.amqp_visit.specs.Results.{IsOutOfMemory, Answers}
use Rattle.amqp_visit.specs.Trees.{enum_content, enum_index, map_left, pending_value, seq_left, value_tree}
use Rattle.amqp_visit.specs.declared.visit.Visit.{Visit}
use Rattle.amqp_visit.specs.declared.visit.Visit.TheVariants as visit

-- An event. That of an enum has the index and, if there is one, the value.
pub data Event : Type 0 where
  unchanged_event : Scalar → Event
  none_event : Event
  some_event : Tree → Event
  newtype_event : Tree → Event
  seq_event : List Tree → Event
  map_event : List (Tree × Tree) → Event
  enum_event : Tree → Option Tree → Event
  described_event : Descriptor → Tree → Event
  value_event : Tree → Event
  bytes_event : List ℕ → Event

-- The event that is passed to a visitor.
abbrev pub event_of : Visit → Event
event_of visit.None = none_event
event_of (visit.Some d) = some_event (value_tree d)
event_of visit.Unit = unchanged_event tree.null
event_of (visit.Bool b) = unchanged_event (tree.bool b)
event_of (visit.U8 n) = unchanged_event (tree.ubyte n)
event_of (visit.U16 n) = unchanged_event (tree.ushort n)
event_of (visit.U32 n) = unchanged_event (tree.uint n)
event_of (visit.U64 n) = unchanged_event (tree.ulong n)
event_of (visit.I8 z) = unchanged_event (tree.byte z)
event_of (visit.I16 z) = unchanged_event (tree.short z)
event_of (visit.I32 z) = unchanged_event (tree.int z)
event_of (visit.I64 z) = unchanged_event (tree.long z)
event_of (visit.F32 x) = unchanged_event (tree.float (f32_bits x))
event_of (visit.F64 x) = unchanged_event (tree.double (f64_bits x))
event_of (visit.Char c) = unchanged_event (tree.char c)
event_of (visit.String s) = unchanged_event (tree.string (string_bytes s))
event_of (visit.ByteBuf b) = unchanged_event (tree.binary (byte_buf_bytes b))
event_of (visit.Bytes b) = bytes_event b.now
event_of (visit.Newtype d) = newtype_event (value_tree d)
event_of (visit.Seq a) = seq_event (seq_left a)
event_of (visit.Map a) = map_event (map_left a)
event_of (visit.Enum a) = enum_event (enum_index a) (enum_content a)
event_of (visit.Described d v) = described_event (descriptor_content d) (value_tree v)
event_of (visit.Value v) = value_event (tree_of v)

-- The accessor of a map has no pending value.
abbrev pub HasNoPendingValue : Visit → Type 0
HasNoPendingValue (visit.Map a) = pending_value a ≡ None
HasNoPendingValue v = Unit {0}

-- The result of a visit that reports `a` is a value that `P` relates to `a`, or an error, which is
-- out of memory unless there is no such value. If `Q` relates `a` to `x`, the result has the same
-- contents as `x`, unless the error is out of memory.
abbrev pub Visits : {T A : Type 0} → (A → T → Type 0) → (A → T → Type 0) → (T → T → Type 0) → A → Result T Error
    → Type 0
Visits {T} P Q same a r = Answers (P a) r × ((x : T) → Q a x → MatchResult r (λ y. same y x) IsOutOfMemory)

-- The first tree, if there is one.
abbrev pub first : List Tree → Option Tree
first [] = None
first (t ∷ ts) = Some t

module _ {T : Type 0} (G : Event → T → Type 0) where
  -- A scalar of this kind is reported unchanged.
  abbrev pub ByScalar : {A : Type 0} → (A → Scalar) → Tree → T → Type 0
  ByScalar {A} kind t x = (a : A) × (t ≡ scalar (kind a)) × G (unchanged_event (kind a)) x

  -- Only null is reported.
  abbrev pub ByUnit : Tree → T → Type 0
  ByUnit t x = (t ≡ scalar tree.null) × G (unchanged_event tree.null) x

  -- Null is reported as absent, and any other tree as present.
  abbrev pub ByOption : Tree → T → Type 0
  ByOption t x = (t ≡ scalar tree.null → G none_event x) × (t ≢ scalar tree.null → G (some_event t) x)

  -- The elements of a list or, in `ByArray`, of an array are reported.
  abbrev pub ByList : Tree → T → Type 0
  ByList t x = (ts : Trees) × (t ≡ list ts) × G (seq_event (elements_in ts)) x

  abbrev pub ByArray : Tree → T → Type 0
  ByArray t x = (ts : Trees) × (t ≡ array ts) × G (seq_event (elements_in ts)) x

  -- The pairs of a map are reported.
  abbrev pub ByMap : Tree → T → Type 0
  ByMap t x = (ps : Pairs) × (t ≡ map ps) × G (map_event (entries_in ps)) x

  -- A descriptor and the value after it are reported.
  abbrev pub ByDescribed : Tree → T → Type 0
  ByDescribed t x = (d : Descriptor) × (u : Tree) × (t ≡ described d u) × G (described_event d u) x

  -- A described value is reported for the name of a described struct, and a list for any other
  -- name.
  abbrev pub ByStruct : Bool → Tree → T → Type 0
  ByStruct true = ByDescribed
  ByStruct false = ByList

  -- A uint is reported unchanged, and a symbol as a string.
  abbrev pub ByIdentifier : Tree → T → Type 0
  ByIdentifier t x = ((n : ℕ) × (t ≡ scalar (tree.uint n)) × G (unchanged_event (tree.uint n)) x)
      ⊎ ((s : List ℕ) × (t ≡ scalar (tree.symbol s)) × G (unchanged_event (tree.string s)) x)

  -- A variant without a value: its index.
  abbrev pub ScalarVariant : Scalar → T → Type 0
  ScalarVariant (tree.uint n) x = G (enum_event (scalar (tree.uint n)) None) x
  ScalarVariant (tree.symbol s) x = G (enum_event (scalar (tree.symbol s)) None) x
  ScalarVariant s x = ⊥

  -- A list has the index and then the value. Further elements are ignored.
  abbrev pub ListedVariant : List Tree → T → Type 0
  ListedVariant [] x = ⊥
  ListedVariant (t ∷ ts) x = G (enum_event t (first ts)) x

  -- A map has one pair, from the index to the value.
  abbrev pub KeyedVariant : List (Tree × Tree) → T → Type 0
  KeyedVariant [] x = ⊥
  KeyedVariant (e ∷ []) x = G (enum_event e.0 (Some e.1)) x
  KeyedVariant (e ∷ f ∷ es) x = ⊥

  abbrev pub ByVariant : Tree → T → Type 0
  ByVariant (scalar s) x = ScalarVariant s x
  ByVariant (list ts) x = ListedVariant (elements_in ts) x
  ByVariant (map ps) x = KeyedVariant (entries_in ps) x
  ByVariant t x = ⊥

  -- A descriptor: a ulong is reported unchanged, and a symbol as a string.
  abbrev pub ByDescriptor : Tree → T → Type 0
  ByDescriptor t x = ((n : ℕ) × (t ≡ scalar (tree.ulong n)) × G (unchanged_event (tree.ulong n)) x)
      ⊎ ((s : List ℕ) × (t ≡ scalar (tree.symbol s)) × G (unchanged_event (tree.string s)) x)

  -- Any tree is reported as an untyped value.
  abbrev pub ByValue : Tree → T → Type 0
  ByValue t x = G (value_event t) x

  -- The elements of an array are reported, or the format code of any other value.
  abbrev pub ByFormat : Tree → T → Type 0
  ByFormat (array ts) x = G (seq_event (elements_in ts)) x
  ByFormat t x = G (unchanged_event (tree.ubyte (code_of_kind t))) x

  -- The name of an enum selects an untyped value, a descriptor, the elements of an array or a
  -- format code, or a variant.
  abbrev pub ByEnum : Bool → Bool → Bool → Tree → T → Type 0
  ByEnum true b c = ByValue
  ByEnum false true c = ByDescriptor
  ByEnum false false true = ByFormat
  ByEnum false false false = ByVariant

  -- A symbol is reported as a string, a timestamp as a long, and a decimal or a uuid as its bytes.
  abbrev pub BySymbol : Tree → T → Type 0
  BySymbol t x = (s : List ℕ) × (t ≡ scalar (tree.symbol s)) × G (unchanged_event (tree.string s)) x

  abbrev pub ByTimestamp : Tree → T → Type 0
  ByTimestamp t x = (z : ℤ) × (t ≡ scalar (tree.timestamp z)) × G (unchanged_event (tree.long z)) x

  abbrev pub ByBytes : (List ℕ → Scalar) → Tree → T → Type 0
  ByBytes kind t x = (b : List ℕ) × (t ≡ scalar (kind b)) × G (bytes_event b) x

  -- Any tree is reported as the value of a newtype.
  abbrev pub ByNewtype : Tree → T → Type 0
  ByNewtype t x = G (newtype_event t) x

  -- The bytes of a writable tree are reported.
  abbrev pub ByWritten : Tree → T → Type 0
  ByWritten t x = (writable t ≡ true) × G (unchanged_event (tree.binary (encoding t))) x

  -- The marker of a newtype selects what is reported.
  abbrev pub ByMarker : Marker → Tree → T → Type 0
  ByMarker marker.Symbol = BySymbol
  ByMarker marker.Timestamp = ByTimestamp
  ByMarker marker.Decimal32 = ByBytes tree.decimal32
  ByMarker marker.Decimal64 = ByBytes tree.decimal64
  ByMarker marker.Decimal128 = ByBytes tree.decimal128
  ByMarker marker.Uuid = ByBytes tree.uuid
  ByMarker marker.Array = ByArray
  ByMarker marker.Transparent = ByNewtype
  ByMarker marker.Lazy = ByWritten
  ByMarker marker.Other = ByNewtype

-- The marker that the name of a newtype denotes when it is read. A borrowed symbol is never read,
-- so `SYMBOL_REF` is a name like any other.
abbrev pub read_marker : List ℕ → Marker
read_marker n = if bytes_eq n (codes "__SYMBOL_REF") then marker.Other else marker_of n

-- Whether a tree is the index of a variant: a uint or a symbol.
abbrev pub is_index_scalar : Scalar → Bool
is_index_scalar (tree.uint n) = true
is_index_scalar (tree.symbol s) = true
is_index_scalar s = false

abbrev pub is_index : Tree → Bool
is_index (scalar s) = is_index_scalar s
is_index t = false

-- The name of an enum that is read as the elements of an array, or as a format code.
abbrev pub is_array_name : List ℕ → Bool
is_array_name n = bytes_eq n (codes "__ARRAY")

-- The names of described structs.
abbrev pub is_described_name : List ℕ → Bool
is_described_name n = is_basic_name n || is_list_name n || is_map_name n

-- The event of any value. Scalars for which there is no visit are reported as untyped values.
abbrev pub scalar_event : Scalar → Event
scalar_event (tree.symbol s) = value_event (scalar (tree.symbol s))
scalar_event (tree.timestamp z) = value_event (scalar (tree.timestamp z))
scalar_event (tree.uuid b) = value_event (scalar (tree.uuid b))
scalar_event (tree.decimal32 b) = value_event (scalar (tree.decimal32 b))
scalar_event (tree.decimal64 b) = value_event (scalar (tree.decimal64 b))
scalar_event (tree.decimal128 b) = value_event (scalar (tree.decimal128 b))
scalar_event s = unchanged_event s

abbrev pub any_event : Tree → Event
any_event (scalar s) = scalar_event s
any_event (list ts) = seq_event (elements_in ts)
any_event (array ts) = seq_event (elements_in ts)
any_event (map ps) = map_event (entries_in ps)
any_event (described d t) = described_event d t
any_event t = value_event t
