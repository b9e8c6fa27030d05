-- What is read from a list, the fields in a list, an array, a map and a described value, and from no
-- other tree.
use Rattle.std.proofs.Common.{◌≡◌, List, [], ◌∷◌, refl, sym, subst}
use Rattle.std.specs.Prelude.{◌↔◌}
use Rattle.amqp_ser.specs.Tree as tree
use Rattle.amqp_ser.specs.Tree.{Tree, Trees, Pairs, Descriptor}
use Rattle.amqp_de.specs.Fields.{FieldSource, by_position, NoMoreFields, OnDescribed, OnFields, ReadsField, ReadsRequired}
use Rattle.amqp_de.specs.Maps.{OnMap}
use Rattle.amqp_de.specs.Readings.{BeginsWith}
use Rattle.amqp_de.specs.Reads.{OnList, OnArray}
use Rattle.amqp_de.specs.Values.{elements_in, entries_in}
use Rattle.amqp_de.proofs.Lists.{is_list, is_array, is_map, is_described, is_fields}

pub on_list : (K : List Tree → Type 0) (t : Tree) → OnList K t ↔ ((ts : Trees) × (t ≡ tree.list ts) × K (elements_in ts))
unfolding OnList
on_list K t = (is_list K t, λ h. subst (OnList K) (sym h.1) h.2)

pub on_array : (K : List Tree → Type 0) (t : Tree) → OnArray K t ↔ ((ts : Trees) × (t ≡ tree.array ts) × K (elements_in ts))
unfolding OnArray
on_array K t = (is_array K t, λ h. subst (OnArray K) (sym h.1) h.2)

pub on_map : (K : List (Tree × Tree) → Type 0) (t : Tree) → OnMap K t ↔ ((ps : Pairs) × (t ≡ tree.map ps) × K (entries_in ps))
unfolding OnMap
on_map K t = (is_map K t, λ h. subst (OnMap K) (sym h.1) h.2)

pub on_described : (d : Descriptor) (K : Tree → Type 0) (t : Tree) → OnDescribed d K t ↔ ((u : Tree) × (t ≡ tree.described d u) × K u)
unfolding OnDescribed
on_described d K t = (is_described d K t, λ h. subst (OnDescribed d K) (sym h.1) (refl, h.2))

on_fields : (K : FieldSource → Type 0) (t : Tree) → OnFields K t ↔ ((ts : Trees) × (t ≡ tree.list ts) × K (by_position (elements_in ts)))
unfolding OnFields
on_fields K t = (is_fields K t, λ h. subst (OnFields K) (sym h.1) h.2)

-- `K` holds for elements if and only if `L` does.
pub record Agree (K : FieldSource → Type 0) (L : List Tree → Type 0) : Type 0 where
  pub both : (ts : List Tree) → K (by_position ts) ↔ L ts

pub no_more : Agree NoMoreFields (λ ts. Unit {0})
unfolding NoMoreFields
no_more = record { both = λ ts. (λ h. h, λ h. h) }

pub one_more : {T : Type 0} {K : FieldSource → Type 0} {L : List Tree → Type 0} (R : Tree → T → Type 0) (x : T)
    → Agree K L → Agree (ReadsRequired [] R x K) (BeginsWith R x L)
unfolding ReadsField
one_more {T} {K} {L} R x agree = record { both = go }
  where
    go : (ts : List Tree) → ReadsRequired [] R x K (by_position ts) ↔ BeginsWith R x L ts
    go [] = (λ h. h.0, λ h. absurd h)
    go (t ∷ ts) = (λ h. (h.0, (agree.both ts).0 h.1), λ h. (h.0, (agree.both ts).1 h.1))

pub of_fields : {K : FieldSource → Type 0} {L : List Tree → Type 0} → Agree K L
    → (t : Tree) → OnFields K t ↔ ((ts : Trees) × (t ≡ tree.list ts) × L (elements_in ts))
of_fields {K} {L} agree t = (
  λ h. let r = (on_fields K t).0 h in (r.0, r.1, (agree.both (elements_in r.0)).0 r.2),
  λ h. (on_fields K t).1 (h.0, h.1, (agree.both (elements_in h.0)).1 h.2),
)
