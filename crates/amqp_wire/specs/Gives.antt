-- What a pass that may give up permits.
use Rattle.std.specs.Prelude.{◌≡◌, ◌⊎◌, ℕ, ◌+◌, ◌<◌, ◌^◌, List, [], ◌∷◌, ◌++◌, Option, Some, None, Bool, true, false, Result, Ok, Err}
use Rattle.amqp_ser.specs.Tree.{Tree, Trees, uint, no_trees, more, count}
use Rattle.amqp_ser.specs.Compounds.{all_trees, paired}
use Rattle.amqp_ser.specs.Encoding.{encoding_each, payload_each, array_constructor, constructor}
use Rattle.amqp_ser.specs.Scalars.{scalar_form}
use Rattle.amqp_ser.specs.Marked.{with_marker}
use Rattle.amqp_ser.specs.Ranged.{IsRanged, AreRanged}
use Rattle.amqp_ser.specs.Writable.{within_limits, within_limits_each, uniform_arrays, uniform_arrays_each, one_constructor, inside_each, placed_each}
use Rattle.amqp_ser.specs.declared.kind.CompoundKind.{CompoundKind}
use Rattle.amqp_ser.specs.declared.kind.CompoundKind.TheVariants as kinds
use Rattle.amqp_ser.specs.declared.marker.Marker.{Marker}
use Rattle.amqp_ser.specs.declared.marker.Marker.TheVariants as marker
use Rattle.amqp_size.specs.declared.resolved_kind.ResolvedKind.{ResolvedKind}
use Rattle.amqp_size.specs.declared.resolved_kind.ResolvedKind.TheVariants as resolved
use Rattle.amqp_wire.specs.Positions.{is_element, Admits, Led, bytes_at, fits_position, Took}
use Rattle.amqp_wire.specs.declared.pass.GaveUp.{GaveUp}
use Rattle.amqp_wire.specs.declared.pass.Pass.{Pass}
use Rattle.amqp_wire.specs.declared.pass_compound.PassCompound.{PassCompound}
use Rattle.amqp_wire.specs.Kept.{Kept, kept}
pub use Rattle.amqp_wire.specs.When.{Promises, When}
use Rattle.amqp_wire.specs.declared.position.Position.{Position}
use Rattle.amqp_wire.specs.declared.position.Position.TheVariants as positions
use Rattle.amqp_wire.specs.declared.sink.HeaderKind.{HeaderKind}
use Rattle.amqp_wire.specs.declared.sink.HeaderKind.TheVariants as headers
use Rattle.amqp_wire.specs.declared.sink.Opened.{Opened}
use Rattle.amqp_wire.specs.declared.sink.Mark.{Mark}

-- The ghost members of a sink.
abbrev pub Adding : Type 0 → Type 1
Adding K = K → List ℕ → K → Type 0

abbrev pub Opening : Type 0 → Type 1
Opening K = K → Bool → HeaderKind → Opened → K → List ℕ → Type 0

abbrev pub Extending : Type 0 → Type 1
Extending K = K → K → Type 0

abbrev pub Marking : Type 0 → Type 1
Marking K = K → Mark → Type 0

-- The tree under the pending marker; none if no value is accepted any more.
abbrev pub marked : Option Marker → Option Tree → Option Tree
marked None o = None
marked (Some m) o = with_marker m o

-- A writable tree was added. Its ranges are promised by a sink that reads all values.
pub record Gave {K : Type 0} (adds : Adding K) (reads : Promises K) (a : K) (p : Position) (t : Tree) (b : K) (q : Position) : Type 0 where
  pub within_limits_it : reads.sound b → within_limits t ≡ true
  pub uniform_arrays_it : uniform_arrays t ≡ true
  pub fits_it : fits_position p t ≡ true
  pub ranged : When reads.ranges (IsRanged t)
  pub took : Took p t q
  pub out : adds a (bytes_at p t) b

abbrev pub puts : {K : Type 0} → Adding K → Promises K → K → Position → Option Tree → K → Position → Type 0
puts adds reads a p None b q = ⊥
puts adds reads a p (Some t) b q = Gave adds reads a p t b q

-- The tree was added. After an error the sink has other bytes after those that it had.
abbrev pub Gives : {K : Type 0} → Adding K → Promises K → Extending K → Pass K → Option Tree → Result (Unit {0}) GaveUp → Pass K → Type 0
Gives adds reads extends s o (Ok u) after = puts adds reads s.sink s.position (marked s.marker o) after.sink after.position
Gives adds reads extends s o (Err e) after = extends s.sink after.sink

none_put : {K : Type 0} (adds : Adding K) (reads : Promises K) (a : K) (p : Position) (m : Option Marker) (b : K) (q : Position) → puts adds reads a p (marked m None) b q → ⊥
none_put adds reads a p None b q h = h
none_put adds reads a p (Some m) b q h = h

pub nothing_of_none : {K : Type 0} (adds : Adding K) (reads : Promises K) (extends : Extending K) (s : Pass K) (u : Unit {0}) (after : Pass K) → Gives adds reads extends s None (Ok u) after → ⊥
nothing_of_none adds reads extends s u after h = none_put adds reads s.sink s.position s.marker after.sink after.position h

-- The kind and the marker of what a compound is encoded as.
abbrev pub kind_of : ResolvedKind → CompoundKind
kind_of resolved.List = kinds.List
kind_of resolved.Map = kinds.Map
kind_of (resolved.Variant i) = kinds.Variant i
kind_of (resolved.NewtypeVariant i) = kinds.NewtypeVariant i
kind_of resolved.Array = kinds.List
kind_of resolved.Transparent = kinds.List
kind_of resolved.Single = kinds.Single
kind_of resolved.Refused = kinds.Single

abbrev pub marker_of : ResolvedKind → Marker
marker_of resolved.List = marker.Other
marker_of resolved.Map = marker.Other
marker_of (resolved.Variant i) = marker.Other
marker_of (resolved.NewtypeVariant i) = marker.Other
marker_of resolved.Array = marker.Array
marker_of resolved.Transparent = marker.Transparent
marker_of resolved.Single = marker.Other
marker_of resolved.Refused = marker.Other

-- The constructor of a compound, if it has a header.
abbrev pub code_of : ResolvedKind → ℕ
code_of resolved.List = 0xd0
code_of resolved.Map = 0xd1
code_of (resolved.Variant i) = 0xd1
code_of (resolved.NewtypeVariant i) = 0xd1
code_of resolved.Array = 0xf0
code_of resolved.Transparent = 0
code_of resolved.Single = 0
code_of resolved.Refused = 0

-- The kind of the header of a compound, if it is a list, a map or an array.
abbrev pub header_of : ResolvedKind → HeaderKind
header_of resolved.List = headers.List
header_of resolved.Map = headers.Map
header_of (resolved.Variant i) = headers.Map
header_of (resolved.NewtypeVariant i) = headers.Map
header_of resolved.Array = headers.Array
header_of resolved.Transparent = headers.List
header_of resolved.Single = headers.List
header_of resolved.Refused = headers.List

abbrev pub HasHeader : ResolvedKind → Type 0
HasHeader resolved.List = Unit {0}
HasHeader resolved.Map = Unit {0}
HasHeader (resolved.Variant i) = ⊥
HasHeader (resolved.NewtypeVariant i) = ⊥
HasHeader resolved.Array = Unit {0}
HasHeader resolved.Transparent = ⊥
HasHeader resolved.Single = ⊥
HasHeader resolved.Refused = ⊥

-- The position of a compound, which is kept for its end. A transparent vector is only at the root.
abbrev pub Stands : ResolvedKind → Position → Position → Type 0
Stands resolved.List p q = Admits p 0xd0 q
Stands resolved.Map p q = Admits p 0xd1 q
Stands (resolved.Variant i) p q = Admits p 0xd1 q
Stands (resolved.NewtypeVariant i) p q = Admits p 0xd1 q
Stands resolved.Array p q = Admits p 0xf0 q
Stands resolved.Transparent p q = p ≡ positions.Root
Stands resolved.Single p q = ⊥
Stands resolved.Refused p q = ⊥

abbrev pub element_at : Option ℕ → Position
element_at None = positions.First
element_at (Some c) = positions.Element c

-- The position of the next element of an array.
abbrev pub next_element : Trees → Position
next_element no_trees = positions.First
next_element (more t ts) = element_at (constructor t)

-- The position of the next part.
abbrev pub inner : ResolvedKind → Trees → Position
inner resolved.List ts = positions.Inside
inner resolved.Map ts = positions.Inside
inner (resolved.Variant i) ts = positions.Inside
inner (resolved.NewtypeVariant i) ts = positions.Inside
inner resolved.Array ts = next_element ts
inner resolved.Transparent ts = positions.Root
inner resolved.Single ts = positions.Inside
inner resolved.Refused ts = positions.Inside

-- The bytes of the parts.
abbrev pub body : ResolvedKind → Trees → List ℕ
body resolved.List ts = encoding_each ts
body resolved.Map ts = encoding_each ts
body (resolved.Variant i) ts = encoding_each ts
body (resolved.NewtypeVariant i) ts = encoding_each ts
body resolved.Array ts = array_constructor ts ++ payload_each ts
body resolved.Transparent ts = encoding_each ts
body resolved.Single ts = encoding_each ts
body resolved.Refused ts = encoding_each ts

-- The parts are where they may be, and those of an array have one constructor.
abbrev pub PartsFit : ResolvedKind → Trees → Type 0
PartsFit resolved.List ts = inside_each ts ≡ true
PartsFit resolved.Map ts = inside_each ts ≡ true
PartsFit (resolved.Variant i) ts = inside_each ts ≡ true
PartsFit (resolved.NewtypeVariant i) ts = inside_each ts ≡ true
PartsFit resolved.Array ts = (inside_each ts ≡ true) × (one_constructor ts ≡ true)
PartsFit resolved.Transparent ts = placed_each ts ≡ true
PartsFit resolved.Single ts = inside_each ts ≡ true
PartsFit resolved.Refused ts = inside_each ts ≡ true

-- The header of a variant with its index, and then the header of its fields and these bytes.
pub record InVariant {K : Type 0} (within : Opening K) (e : Bool) (i : ℕ) (outer opened : Opened) (a now : K) (bs : List ℕ) : Type 0 where
  pub mid : K
  pub index : within a e headers.Map outer mid (scalar_form (uint i))
  pub fields : within mid false headers.List opened now bs

-- The bytes that were added since the compound was opened.
abbrev pub Added : {K : Type 0} → Adding K → Opening K → ResolvedKind → Bool → Kept → K → K → List ℕ → Type 0
Added adds within resolved.List e c a now bs = within a e headers.List c.opened now bs
Added adds within resolved.Map e c a now bs = within a e headers.Map c.opened now bs
Added adds within (resolved.Variant i) e c a now bs = InVariant within e i c.outer c.opened a now bs
Added adds within (resolved.NewtypeVariant i) e c a now bs = within a e headers.Map c.outer now (scalar_form (uint i) ++ bs)
Added adds within resolved.Array e c a now bs = within a e headers.Array c.opened now bs
Added adds within resolved.Transparent e c a now bs = adds a bs now
Added adds within resolved.Single e c a now bs = ⊥
Added adds within resolved.Refused e c a now bs = ⊥

-- The index of a variant is a number of 32 bits.
abbrev pub IndexFits : ResolvedKind → Type 0
IndexFits resolved.List = Unit {0}
IndexFits resolved.Map = Unit {0}
IndexFits (resolved.Variant i) = i < 2 ^ 32
IndexFits (resolved.NewtypeVariant i) = i < 2 ^ 32
IndexFits resolved.Array = Unit {0}
IndexFits resolved.Transparent = Unit {0}
IndexFits resolved.Single = Unit {0}
IndexFits resolved.Refused = Unit {0}

-- The parts of a compound.
pub record Gathers {K : Type 0} (adds : Adding K) (reads : Promises K) (within : Opening K) (k : ResolvedKind) (start : Pass K) (now : K) (c : Kept) (n : ℕ) (ps : List (Option Tree)) : Type 0 where
  pub ts : Trees
  pub trees : all_trees ps ≡ Some ts
  pub marker_is : start.marker ≡ Some (marker_of k)
  pub stands : Stands k start.position c.after
  pub index : IndexFits k
  pub inner_marker : c.marker ≡ Some marker.Other
  pub inner_position : c.position ≡ inner k ts
  pub counted : n ≡ count ts
  pub within_limits_parts : reads.sound now → within_limits_each ts ≡ true
  pub uniform_arrays_parts : uniform_arrays_each ts ≡ true
  pub parts_fit : PartsFit k ts
  pub ranged_parts : When reads.ranges (AreRanged ts)
  pub first : K
  pub led : Led adds start.position (code_of k) start.sink first
  pub out : Added adds within k (is_element start.position) c first now (body k ts)

-- The sink before the last part, which a map returns to.
pub record Before {K : Type 0} (adds : Adding K) (reads : Promises K) (within : Opening K) (extends : Extending K) (marks : Marking K) (k : ResolvedKind) (start : Pass K) (now : K) (c : Kept) (qs : List (Option Tree)) : Type 0 where
  pub old : K
  pub since : extends old now
  pub at : marks old c.before_last
  pub n : ℕ
  pub one_less : c.count ≡ n + 1
  pub gathered : Gathers adds reads within k start old c n qs

-- The parts of a compound, and how to return before the last one.
pub record Holds {K : Type 0} (adds : Adding K) (reads : Promises K) (within : Opening K) (extends : Extending K) (marks : Marking K) (k : ResolvedKind) (kind : CompoundKind) (start : Pass K) (now : K) (c : Kept) (ps : List (Option Tree)) : Type 0 where
  pub kind_is : kind ≡ kind_of k
  pub gathered : Gathers adds reads within k start now c c.count ps
  pub back : k ≡ resolved.Map → paired ps ≡ false → (qs : List (Option Tree)) (q : Option Tree) → ps ≡ qs ++ (q ∷ []) → Before adds reads within extends marks k start now c qs

-- The one part of a single compound.
abbrev pub Alone : {K : Type 0} → Adding K → Promises K → Pass K → K → Kept → List (Option Tree) → Type 0
Alone adds reads start now c [] = (c.count ≡ 0) × (adds start.sink [] now × ((c.marker ≡ start.marker) × (c.position ≡ start.position)))
Alone adds reads start now c (p ∷ []) = (c.count ≡ 1) × puts adds reads start.sink start.position (marked start.marker p) now c.after
Alone adds reads start now c (p ∷ (q ∷ ps)) = ⊥

-- What is said of a compound, by its kind.
pub data Class : Type 0 where
  refused : Class
  alone : Class
  gathered : Class

abbrev pub class_of : ResolvedKind → Class
class_of resolved.Refused = refused
class_of resolved.Single = alone
class_of resolved.List = gathered
class_of resolved.Map = gathered
class_of (resolved.Variant i) = gathered
class_of (resolved.NewtypeVariant i) = gathered
class_of resolved.Array = gathered
class_of resolved.Transparent = gathered

abbrev pub HasAs : {K : Type 0} → Adding K → Promises K → Opening K → Extending K → Marking K → Class → ResolvedKind → Pass K → CompoundKind → K → Kept → List (Option Tree) → Type 0
HasAs adds reads within extends marks refused k start kind now c ps = (c.marker ≡ None) × extends start.sink now
HasAs adds reads within extends marks alone k start kind now c ps = (kind ≡ kinds.Single) × Alone adds reads start now c ps
HasAs adds reads within extends marks gathered k start kind now c ps = Holds adds reads within extends marks k kind start now c ps

abbrev pub HasIn : {K : Type 0} → Adding K → Promises K → Opening K → Extending K → Marking K → ResolvedKind → Pass K → CompoundKind → K → Kept → List (Option Tree) → Type 0
HasIn adds reads within extends marks k start kind now c ps = HasAs adds reads within extends marks (class_of k) k start kind now c ps

abbrev pub Has : {K : Type 0} → Adding K → Promises K → Opening K → Extending K → Marking K → Pass K → CompoundKind → Pass K → PassCompound → List (Option Tree) → Type 0
Has adds reads within extends marks start kind now c ps = HasIn adds reads within extends marks c.kind start kind now.sink (kept c) ps

-- The next part has its position and its marker, and the compound the mark before it.
abbrev pub Awaits : {K : Type 0} → Adding K → Promises K → Opening K → Extending K → Marking K → Pass K → CompoundKind → Pass K → PassCompound → List (Option Tree) → Type 0
Awaits adds reads within extends marks start kind now c ps = Has adds reads within extends marks start kind now c ps × ((now.marker ≡ c.marker) × ((now.position ≡ c.position) × marks now.sink c.mark))

-- The format code of described values was added, and the compound has the mark before it.
pub record DescribedFrom {K : Type 0} (adds : Adding K) (reads : Promises K) (within : Opening K) (extends : Extending K) (marks : Marking K) (k : ResolvedKind) (start now : Pass K) (c : Kept) (mark : Mark) : Type 0 where
  pub old : K
  pub at : marks old mark
  pub since : extends old now.sink
  pub has : HasIn adds reads within extends marks k start kinds.Single old c []
  pub position : now.position ≡ positions.Descriptor
  pub marker_is : (now.marker ≡ None) ⊎ ((now.marker ≡ Some marker.Other) × adds old (0x00 ∷ []) now.sink)

abbrev pub AwaitsDescriptor : {K : Type 0} → Adding K → Promises K → Opening K → Extending K → Marking K → Pass K → Pass K → PassCompound → Type 0
AwaitsDescriptor adds reads within extends marks start now c = DescribedFrom adds reads within extends marks c.kind start now (kept c) c.mark
