-- The permitted results of the size serializer, and the parts of an open compound.
use Rattle.std.specs.Prelude.{◌≡◌, ℕ, List, [], ◌∷◌, ◌++◌, ◌⊎◌, Option, Some, None, Bool, true, false, ◌&&◌, Result, Ok, Err, length}
use Rattle.amqp_size.specs.declared.size_error.SizeError.{SizeError}
use Rattle.amqp_size.specs.declared.size_error.SizeError.TheVariants as error
use Rattle.amqp_ser.specs.Tree.{Tree, Trees, no_trees, more, count}
use Rattle.amqp_ser.specs.Limits.{fits, is_count}
use Rattle.amqp_ser.specs.Ranged.{IsRanged, AreRanged}
use Rattle.amqp_ser.specs.Encoding.{encoding_each, payload_each, array_constructor, constructor}
use Rattle.amqp_ser.specs.Writable.{within_limits_each, uniform_arrays, uniform_arrays_each, inside_each, one_constructor, placed_each}
use Rattle.amqp_ser.specs.Compounds.{all_trees, paired}
use Rattle.amqp_size.specs.Refused.{refuses_none}
use Rattle.amqp_ser.specs.declared.kind.CompoundKind.{CompoundKind}
use Rattle.amqp_ser.specs.declared.kind.CompoundKind.TheVariants as kinds
use Rattle.amqp_size.specs.Position.{position_of, meant, without_prefix, suits, element, next, extent, within_limits_at, resolved_kind_of, is_array, is_gathered}
use Rattle.amqp_size.specs.WholePosition.{Position}
use Rattle.amqp_size.specs.WholePosition.{Root, InCompound, FirstElement, Descriptor}
use Rattle.amqp_size.specs.WholeContext.{Context}
use Rattle.amqp_size.specs.WholeContext.{Unmarked}
use Rattle.amqp_size.specs.WholeContext as context
use Rattle.amqp_size.specs.declared.resolved_kind.ResolvedKind.TheVariants as resolved_kinds
use Rattle.amqp_size.specs.declared.serializer.SizeSerializer.{SizeSerializer}
use Rattle.amqp_size.specs.declared.open_compound.OpenCompound.{OpenCompound}

-- The tree is accepted at this position and measured. It is in range.
pub record Counted (p : Position) (t : Tree) (n : ℕ) (after : Context) : Type 0 where
  pub within_limits_it : within_limits_at p t ≡ true
  pub uniform_arrays_it : uniform_arrays t ≡ true
  pub suited : suits p t ≡ true
  pub len : n ≡ extent p t
  pub position : after ≡ Unmarked (next p t)
  pub ranged : IsRanged t

-- `TooLong` only if a limit is exceeded, and `InvalidValue` only for another reason.
abbrev pub refused : Position → Tree → SizeError → Type 0
refused p t error.TooLong = within_limits_at p t ≡ false
refused p t error.InvalidValue = (uniform_arrays t && suits p t) ≡ false
refused p t e = ⊥

abbrev pub AtPosition : Position → Option Tree → Result ℕ SizeError → Context → Type 0
AtPosition p None (Ok n) after = ⊥
AtPosition p None (Err e) after = refuses_none e × (after ≡ Unmarked (without_prefix p))
AtPosition p (Some t) (Ok n) after = Counted p t n after
AtPosition p (Some t) (Err e) after = refused p t e × (after ≡ Unmarked (without_prefix p))

abbrev pub SizePermits : SizeSerializer → Option Tree → Result ℕ SizeError → SizeSerializer → Type 0
SizePermits s t r after = AtPosition (position_of s.context) (meant s.context t) r after.context

-- A value has its ordinary form here: no marker and no descriptor precedes it, and it is no element
-- of an array.
abbrev pub TakesWhole : Context → Type 0
TakesWhole (context.Unmarked Root) = Unit {0}
TakesWhole (context.Unmarked InCompound) = Unit {0}
TakesWhole u = ⊥

-- The bytes of the parts, in an array or not.
abbrev pub body_bytes : Bool → Trees → List ℕ
body_bytes false ts = encoding_each ts
body_bytes true ts = array_constructor ts ++ payload_each ts

abbrev pub first_position : Trees → Position
first_position no_trees = FirstElement
first_position (more t ts) = element (constructor t)

-- The position of the next part.
abbrev pub inner_position_of : Bool → Trees → Position
inner_position_of false ts = InCompound
inner_position_of true ts = first_position ts

-- The number of parts, which is counted only in an array.
abbrev pub counts : Bool → Trees → ℕ
counts false ts = 0
counts true ts = count ts

abbrev pub one_in : Bool → Trees → Bool
one_in false ts = true
one_in true ts = one_constructor ts

-- The parts of an open compound.
pub record AcceptedTrees (compound : OpenCompound) (ts : Trees) : Type 0 where
  pub sum : compound.sum ≡ length (body_bytes (is_array compound.resolved_kind) ts)
  pub fits_sum : fits compound.sum ≡ true
  pub counted : compound.count ≡ counts (is_array compound.resolved_kind) ts
  pub few : is_count compound.count ≡ true
  pub inner_context : compound.inner_context ≡ Unmarked (inner_position_of (is_array compound.resolved_kind) ts)
  pub uniform_arrays_parts : uniform_arrays_each ts ≡ true
  pub within_limits_parts : within_limits_each ts ≡ true
  pub inside_parts : inside_each ts ≡ true
  pub one : one_in (is_array compound.resolved_kind) ts ≡ true
  pub ranged_parts : AreRanged ts

-- The parts of an open compound before the last one.
pub record BeforeLast (compound : OpenCompound) (qs : List (Option Tree)) : Type 0 where
  pub us : Trees
  pub trees : all_trees qs ≡ Some us
  pub sum : compound.before_last ≡ length (body_bytes (is_array compound.resolved_kind) us)

-- An open compound that collects its parts in one body, with its parts.
pub record HoldsGathered (start : SizeSerializer) (kind : CompoundKind) (compound : OpenCompound) (ps : List (Option Tree)) : Type 0 where
  pub ts : Trees
  pub trees : all_trees ps ≡ Some ts
  pub accepted : AcceptedTrees compound ts
  pub position : compound.position ≡ position_of start.context
  pub resolved_kind : compound.resolved_kind ≡ resolved_kind_of start.context kind
  pub gathered : is_gathered compound.resolved_kind ≡ true
  pub back : paired ps ≡ false → (qs : List (Option Tree)) (q : Option Tree) → ps ≡ qs ++ (q ∷ []) → BeforeLast compound qs

-- An open transparent vector, with its parts.
pub record HoldsTransparent (start : SizeSerializer) (kind : CompoundKind) (compound : OpenCompound) (ps : List (Option Tree)) : Type 0 where
  pub ts : Trees
  pub trees : all_trees ps ≡ Some ts
  pub kind_is : kind ≡ kinds.List
  pub position : compound.position ≡ position_of start.context
  pub resolved_kind : compound.resolved_kind ≡ resolved_kinds.Transparent
  pub shaped : resolved_kind_of start.context kind ≡ resolved_kinds.Transparent
  pub sum : compound.sum ≡ length (encoding_each ts)
  pub inner_context : compound.inner_context ≡ Unmarked Root
  pub uniform_arrays_parts : uniform_arrays_each ts ≡ true
  pub within_limits_parts : within_limits_each ts ≡ true
  pub placed_parts : placed_each ts ≡ true
  pub ranged_parts : AreRanged ts

-- The part of a single compound has the position of the compound.
abbrev pub SingleParts : SizeSerializer → OpenCompound → List (Option Tree) → Type 0
SingleParts start compound [] = (compound.count ≡ 0) × (compound.inner_context ≡ start.context)
SingleParts start compound (p ∷ []) = (compound.count ≡ 1) × AtPosition (position_of start.context) (meant start.context p) (Ok compound.sum) compound.inner_context
SingleParts start compound (p ∷ (q ∷ ps)) = ⊥

-- An open single compound, with its part.
pub record HoldsSingle (start : SizeSerializer) (kind : CompoundKind) (compound : OpenCompound) (ps : List (Option Tree)) : Type 0 where
  pub kind_is : kind ≡ kinds.Single
  pub position : without_prefix compound.position ≡ without_prefix (position_of start.context)
  pub resolved_kind : compound.resolved_kind ≡ resolved_kinds.Single
  pub parts : SingleParts start compound ps

-- An open compound, with its parts.
abbrev pub Holding : SizeSerializer → CompoundKind → OpenCompound → List (Option Tree) → Type 0
Holding start kind compound ps = HoldsGathered start kind compound ps ⊎ (HoldsTransparent start kind compound ps ⊎ HoldsSingle start kind compound ps)

abbrev pub SizeHas : SizeSerializer → CompoundKind → SizeSerializer → OpenCompound → List (Option Tree) → Type 0
SizeHas start kind s compound ps = Holding start kind compound ps × (s.context ≡ Unmarked (without_prefix compound.position))

abbrev pub SizeAwaits : SizeSerializer → CompoundKind → SizeSerializer → OpenCompound → List (Option Tree) → Type 0
SizeAwaits start kind s compound ps = Holding start kind compound ps × (s.context ≡ compound.inner_context)

abbrev pub SizeAwaitsDescriptor : SizeSerializer → SizeSerializer → OpenCompound → Type 0
SizeAwaitsDescriptor start s compound = HoldsSingle start kinds.Single compound [] × (s.context ≡ Unmarked Descriptor)

none_at : (u : Context) (n : ℕ) (after : Context) → AtPosition (position_of u) (meant u None) (Ok n) after → ⊥
none_at (context.Unmarked p) n after h = h
none_at (context.Array p) n after h = h
none_at (context.Transparent p) n after h = h
none_at (context.Scalar m p) n after h = h
none_at (context.Nothing p) n after h = h

-- If there is no tree, no length is returned.
pub no_count_on_none : (s : SizeSerializer) (n : ℕ) (after : SizeSerializer) → SizePermits s None (Ok n) after → ⊥
no_count_on_none s n after h = none_at s.context n after.context h
