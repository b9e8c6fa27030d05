-- The state of the search for arrays without elements.
use Rattle.std.specs.Prelude.{◌≡◌, Bool, true, false, List, [], ◌∷◌, ◌++◌, Option, Some, None, Result, Ok}
use Rattle.std.proofs.Common.{subst}
use Rattle.amqp_ser.specs.Tree.{Tree, Trees}
use Rattle.amqp_ser.specs.Compounds.{all_trees, paired}
use Rattle.amqp_ser.specs.declared.kind.CompoundKind.{CompoundKind}
use Rattle.amqp_ser.specs.declared.kind.CompoundKind.TheVariants as kinds
use Rattle.amqp_ser.specs.declared.marker.Marker.TheVariants as marker
use Rattle.amqp_wire.specs.EmptyArrays.{any_has, Finds}
use Rattle.amqp_ser.specs.Meant.{fits, meant, meant_none, meant_parts}
use Rattle.amqp_wire.specs.declared.finder.Finder.{Finder}
use Rattle.amqp_wire.specs.declared.finder.NoTree.{NoTree}
use Rattle.amqp_wire.specs.declared.finder.Searched.{Searched}
use Rattle.amqp_ser.specs.declared.pending.Pending.{Pending}
use Rattle.amqp_ser.specs.declared.pending.Pending.TheVariants as pending

-- The state before a value without a marker.
abbrev pub fresh : Finder
fresh = record { pending = pending.Marker marker.Other }

abbrev pub Permits : Finder → Option Tree → Result Bool NoTree → Finder → Type 0
Permits before t r after = Finds (meant before.pending t) r × (after ≡ fresh)

-- If there is no tree, the result is an error.
pub nothing_on_none : (before : Finder) (b : Bool) (after : Finder) → Permits before None (Ok b) after → ⊥
nothing_on_none before b after h = subst (λ o. Finds {E = NoTree} o (Ok b)) (meant_none before.pending) h.0

-- The state before the next part: for the one part of a single compound, the state before the
-- compound.
abbrev pub for_part : CompoundKind → List (Option Tree) → Finder → Finder
for_part kinds.Single [] start = start
for_part k ps start = fresh

-- It is an array, and has no elements.
abbrev pub is_empty_array : CompoundKind → Pending → List (Option Tree) → Bool
is_empty_array kinds.List (pending.Marker marker.Array) [] = true
is_empty_array k u ps = false

-- Whether one of the parts has an array without elements.
abbrev pub FindsInParts : Option Trees → Bool → Type 0
FindsInParts None b = ⊥
FindsInParts (Some ts) b = b ≡ any_has ts

-- An open compound with these parts.
pub record Holds (start : Finder) (kind : CompoundKind) (compound : Searched) (ps : List (Option Tree)) : Type 0 where
  pub fits : compound.fits ≡ fits kind start.pending
  pub next : compound.next ≡ for_part kind ps start
  pub empty : compound.is_empty_array ≡ is_empty_array kind start.pending ps
  pub found : FindsInParts (all_trees (meant_parts kind start.pending ps)) compound.found
  pub before_last : kind ≡ kinds.Map → paired ps ≡ false → (qs : List (Option Tree)) (q : Option Tree) → ps ≡ qs ++ (q ∷ []) → FindsInParts (all_trees qs) compound.before_last

-- A compound that was opened in the state `start`, between two parts.
abbrev pub Has : Finder → CompoundKind → Finder → Searched → List (Option Tree) → Type 0
Has start kind now compound ps = Holds start kind compound ps × (now ≡ fresh)

-- Like `Has`, before the next part.
abbrev pub Awaits : Finder → CompoundKind → Finder → Searched → List (Option Tree) → Type 0
Awaits start kind now compound ps = Holds start kind compound ps × (now ≡ compound.next)

-- A single compound, before the descriptor of its value.
abbrev pub AwaitsDescriptor : Finder → Finder → Searched → Type 0
AwaitsDescriptor start now compound = Holds start kinds.Single compound [] × (now ≡ record { pending = pending.Descriptor })
