-- The number of nodes of intended trees.
--
-- For readers who implement `Serializer`: shows that markers leave the number of nodes unchanged.
use Rattle.std.proofs.Common.{◌≡◌, ℕ, ◌^◌, ◌≤◌, inr, List, Option, Some, None, Result, Ok, Err, MatchResult, true, false, sym, subst}
use Rattle.amqp_data.specs.declared.error.Error.{Error}
use Rattle.amqp_data.specs.declared.error.Error.TheVariants.{TooLong}
use Rattle.amqp_ser.specs.Tree.{Tree, Trees}
use Rattle.amqp_ser.specs.Compounds.{all_trees, as_kind, tree_of_parts}
use Rattle.amqp_ser.specs.declared.kind.CompoundKind.{CompoundKind}
use Rattle.amqp_ser.specs.declared.kind.CompoundKind.TheVariants as kinds
use Rattle.amqp_ser.specs.declared.marker.Marker.TheVariants as marker
use Rattle.amqp_ser.proofs.Meant.{never, no_compound, single_meant}
use Rattle.amqp_ser.proofs.Unmarked.{unmarked}
use Rattle.examples.specs.Nodes.{CountsFrom, IsRefusal}
use Rattle.amqp_ser.specs.Meant.{fits, meant, meant_parts}
use Rattle.amqp_ser.specs.declared.pending.Pending.{Pending}
use Rattle.amqp_ser.specs.declared.pending.Pending.TheVariants as pending

-- the result of a checked sum
abbrev pub Sums : ℕ → Result ℕ Error → Type 0
Sums m r = MatchResult r (λ n. n ≡ m) (λ e. (e ≡ TooLong) × (2 ^ 64 ≤ m))

-- an array and a transparent vector have as many nodes as the list
marked_list_kind : (descriptors : ℕ) (o : Option Trees) (r : Result ℕ Error) → CountsFrom descriptors (as_kind kinds.List o) r →
    CountsFrom descriptors (meant (pending.Marker marker.Array) (as_kind kinds.List o)) r × CountsFrom descriptors (meant (pending.Marker marker.Transparent) (as_kind kinds.List o)) r
marked_list_kind descriptors None r h = (h, h)
marked_list_kind descriptors (Some ts) (Ok n) h = (h, h)
marked_list_kind descriptors (Some ts) (Err e) h = (h, h)

-- a result for the compound of the intended parts is a result for the intended compound
pub through : (u : Pending) (kind : CompoundKind) (descriptors : ℕ) (ps : List (Option Tree)) (r : Result ℕ Error) → fits kind u ≡ true →
    CountsFrom descriptors (tree_of_parts kind (meant_parts kind u ps)) r → CountsFrom descriptors (meant u (tree_of_parts kind ps)) r
unfolding tree_of_parts
through u kinds.Single descriptors ps r f h = subst (λ t. CountsFrom descriptors t r) (single_meant u ps) h
through (pending.Marker marker.Other) kind descriptors ps r f h = subst (λ t. CountsFrom descriptors t r) (sym (unmarked (as_kind kind (all_trees ps)))) h
through (pending.Marker marker.Array) kinds.List descriptors ps r f h = (marked_list_kind descriptors (all_trees ps) r h).0
through (pending.Marker marker.Transparent) kinds.List descriptors ps r f h = (marked_list_kind descriptors (all_trees ps) r h).1
through u kind descriptors ps r f h = absurd (never (sym f))

-- the errors of the counter are permitted on a compound that is not allowed
pub barred : (u : Pending) (kind : CompoundKind) (descriptors : ℕ) (ps : List (Option Tree)) (e : Error) → fits kind u ≡ false → IsRefusal e → CountsFrom descriptors (meant u (tree_of_parts kind ps)) (Err e)
unfolding tree_of_parts
barred u kind descriptors ps e f h = subst (λ t. CountsFrom descriptors t (Err e)) (sym (no_compound u kind (all_trees ps) f)) h

pub is_refusal : (descriptors : ℕ) (o : Option Tree) (e : Error) → CountsFrom descriptors o (Err e) → IsRefusal e
is_refusal descriptors None e h = h
is_refusal descriptors (Some t) e h = inr h.0
