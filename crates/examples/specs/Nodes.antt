-- The number of nodes of a tree: one for each scalar, compound, described value, variant and lazy
-- value.
--
-- For readers who implement `Serializer`: shows the definitions that its contract consists of, here
-- that of `NodeCounter`.
use Rattle.std.specs.Prelude.{◌≡◌, ℕ, ◌+◌, ◌^◌, ◌≤◌, ◌⊎◌, List, [], ◌∷◌, ◌++◌, Option, Some, None, Result, Ok, Err, false}
use Rattle.std.proofs.Common.{subst}
use Rattle.serde_amqp.specs.Error.{Error}
use Rattle.serde_amqp.specs.Error.TheVariants.{InvalidValue, TooLong}
use Rattle.serde_amqp.specs.Tree.{Tree, Trees, Pairs, scalar, list, array, map, described, variant, lazy, transparent, no_trees, more, no_pairs, pair}
use Rattle.serde_amqp.specs.Compounds.{all_trees, paired}
use Rattle.serde_amqp.specs.CompoundKind.{CompoundKind}
use Rattle.serde_amqp.specs.CompoundKind.TheVariants as kinds
use Rattle.serde_amqp.specs.Marker.TheVariants as marker
use Rattle.serde_amqp.specs.Meant.{fits, meant, meant_none, meant_parts}
use Rattle.examples.specs.declared.counter.Counting.{Counting}
use Rattle.examples.specs.declared.counter.NodeCounter.{NodeCounter}
use Rattle.serde_amqp.specs.Pending.TheVariants as pending

abbrev mutual
  pub nodes : Tree → ℕ
  nodes (scalar s) = 1
  nodes (list ts) = nodes_each ts + 1
  nodes (array ts) = nodes_each ts + 1
  nodes (map ps) = nodes_of_pairs ps + 1
  nodes (described d t) = nodes t + 1
  nodes (variant i t) = nodes t + 1
  nodes (lazy bs) = 1
  nodes (transparent ts) = nodes_each ts + 1

  pub nodes_each : Trees → ℕ
  nodes_each no_trees = 0
  nodes_each (more t ts) = nodes t + nodes_each ts

  pub nodes_of_pairs : Pairs → ℕ
  nodes_of_pairs no_pairs = 0
  nodes_of_pairs (pair k v ps) = nodes k + (nodes v + nodes_of_pairs ps)

-- the errors of the counter
abbrev pub IsRefusal : Error → Type 0
IsRefusal e = (e ≡ InvalidValue) ⊎ (e ≡ TooLong)

-- the result for a tree after this number of descriptors: the nodes of all, or too long if these
-- are 2^64 or more; without a tree, an error
abbrev pub CountsFrom : ℕ → Option Tree → Result ℕ Error → Type 0
CountsFrom descriptors (Some t) (Ok n) = n ≡ nodes t + descriptors
CountsFrom descriptors (Some t) (Err e) = (e ≡ TooLong) × (2 ^ 64 ≤ nodes t + descriptors)
CountsFrom descriptors None (Ok n) = ⊥
CountsFrom descriptors None (Err e) = IsRefusal e

-- the result for a top-level tree
abbrev pub CountsNodes : Option Tree → Result ℕ Error → Type 0
CountsNodes t r = CountsFrom 0 t r

-- the state before a top-level tree: no descriptors and no marker
abbrev pub fresh : NodeCounter
fresh = record { descriptors = 0; pending = pending.Marker marker.Other }

-- the counter's result for a tree; afterwards the counter is `fresh`
abbrev pub Permits : NodeCounter → Option Tree → Result ℕ Error → NodeCounter → Type 0
Permits before t r after = CountsFrom before.descriptors (meant before.pending t) r × (after ≡ fresh)

-- the result for a value without a tree is an error
pub no_count_on_none : (before : NodeCounter) (n : ℕ) (after : NodeCounter) → Permits before None (Ok n) after → ⊥
no_count_on_none before n after h = subst (λ o. CountsFrom before.descriptors o (Ok n)) (meant_none before.pending) h.0

-- the number of nodes that a compound adds to those of its parts
abbrev pub own_nodes : CompoundKind → ℕ
own_nodes (kinds.Variant i) = 2
own_nodes kinds.Single = 0
own_nodes k = 1

-- the state before the next part: for the one part of a single compound, the state before the
-- compound; otherwise `fresh`
abbrev pub for_part : CompoundKind → List (Option Tree) → NodeCounter → NodeCounter
for_part kinds.Single [] start = start
for_part k ps start = fresh

-- the number of nodes of these parts and of the descriptors before the compound
abbrev pub CountsParts : ℕ → Option Trees → ℕ → Type 0
CountsParts descriptors None n = ⊥
CountsParts descriptors (Some ts) n = n ≡ nodes_each ts + descriptors

-- an open compound with these parts
pub record Holds (start : NodeCounter) (kind : CompoundKind) (compound : Counting) (ps : List (Option Tree)) : Type 0 where
  pub own : compound.own ≡ own_nodes kind
  pub fits : compound.fits ≡ fits kind start.pending
  pub next : compound.next ≡ for_part kind ps start
  pub count : CountsParts start.descriptors (all_trees (meant_parts kind start.pending ps)) (compound.count + compound.next.descriptors)
  pub before_last : kind ≡ kinds.Map → paired ps ≡ false → (qs : List (Option Tree)) (q : Option Tree) → ps ≡ qs ++ (q ∷ []) → CountsParts start.descriptors (all_trees qs) compound.before_last

-- a compound that `start` opened, and the counter between two parts
abbrev pub Has : NodeCounter → CompoundKind → NodeCounter → Counting → List (Option Tree) → Type 0
Has start kind now compound ps = Holds start kind compound ps × (now ≡ fresh)

-- like `Has`, with the counter before the next part
abbrev pub Awaits : NodeCounter → CompoundKind → NodeCounter → Counting → List (Option Tree) → Type 0
Awaits start kind now compound ps = Holds start kind compound ps × (now ≡ compound.next)

-- a single compound, with the counter at the descriptor of its value
abbrev pub AwaitsDescriptor : NodeCounter → NodeCounter → Counting → Type 0
AwaitsDescriptor start now compound = Holds start kinds.Single compound [] × (now ≡ record { descriptors = 0; pending = pending.Descriptor })
