-- Fields whose reading is determined by their types and their names, and what is read in two ways that agree.
use Rattle.std.proofs.Common.{◌↔◌, inl, inr, ℕ, List, [], ◌∷◌, Result, Ok, Err, sym, subst}
use Rattle.amqp_ser.specs.Tree as tree
use Rattle.amqp_ser.specs.Tree.{Tree}
use Rattle.amqp_de.specs.Fields.{FieldSource, by_position, by_name, without, ReadsField, OnFields, OnEntries, OnNamed}
use Rattle.amqp_de.specs.Results.{Takes}
use Rattle.amqp_de.specs.Values.{elements_in, entries_in}
use Rattle.amqp_de.specs.declared.fault.Fault.{Fault}
use Rattle.amqp_de.specs.Parts.{ReadsFields}
use Rattle.amqp_de.specs.declared.fields.FieldValues.{FieldValues}
use Rattle.amqp_de.proofs.Lists.{is_fields, is_entries}

module _ {V W : Type 0} (Absent : V → Type 0) (R : Tree → V → Type 0) (Q L : W → FieldSource → Type 0) (n : List ℕ) where
  -- A field and the fields after it are read from elements whatever the names are, if those after it are.
  pub fields_position : (m : List ℕ) → ((w : W) (ts : List Tree) → Q w (by_position ts) ↔ L w (by_position ts))
      → (x : FieldValues V W) (ts : List Tree) → ReadsFields Absent n R Q x (by_position ts) ↔ ReadsFields Absent m R L x (by_position ts)
  unfolding ReadsField
  fields_position m h x [] = ((λ p. (p.0, (h x.rest []).0 p.1)), (λ p. (p.0, (h x.rest []).1 p.1)))
  fields_position m h x (t ∷ ts) = ((λ p. (p.0, (h x.rest ts).0 p.1)), (λ p. (p.0, (h x.rest ts).1 p.1)))

  pub fields_name : ((w : W) (ps : List (Tree × Tree)) → Q w (by_name ps) ↔ L w (by_name ps))
      → (x : FieldValues V W) (ps : List (Tree × Tree)) → ReadsFields Absent n R Q x (by_name ps) ↔ ReadsFields Absent n R L x (by_name ps)
  unfolding ReadsField
  fields_name h x ps = ((λ p. (p.0, (h x.rest (without n ps)).0 p.1)), (λ p. (p.0, (h x.rest (without n ps)).1 p.1)))

module _ (K L : FieldSource → Type 0) where
  pub on_fields : ((ts : List Tree) → K (by_position ts) ↔ L (by_position ts)) → (t : Tree) → OnFields K t ↔ OnFields L t
  unfolding OnFields
  on_fields h t = (
    λ p. let (ts, is, k) = is_fields K t p in subst (OnFields L) (sym is) ((h (elements_in ts)).0 k),
    λ p. let (ts, is, k) = is_fields L t p in subst (OnFields K) (sym is) ((h (elements_in ts)).1 k),
  )

  pub on_entries : ((ps : List (Tree × Tree)) → K (by_name ps) ↔ L (by_name ps)) → (t : Tree) → OnEntries K t ↔ OnEntries L t
  unfolding OnEntries
  on_entries h t = (
    λ p. let (ps, is, k) = is_entries K t p in subst (OnEntries L) (sym is) ((h (entries_in ps)).0 k),
    λ p. let (ps, is, k) = is_entries L t p in subst (OnEntries K) (sym is) ((h (entries_in ps)).1 k),
  )

  pub on_named : ((ts : List Tree) → K (by_position ts) ↔ L (by_position ts)) → ((ps : List (Tree × Tree)) → K (by_name ps) ↔ L (by_name ps)) → (t : Tree) → OnNamed K t ↔ OnNamed L t
  unfolding OnNamed
  on_named h k (tree.list ts) = h (elements_in ts)
  on_named h k (tree.array ts) = h (elements_in ts)
  on_named h k (tree.map ps) = k (entries_in ps)
  on_named h k (tree.scalar s) = ((λ p. p), (λ p. p))
  on_named h k (tree.described d t) = ((λ p. p), (λ p. p))
  on_named h k (tree.variant n t) = ((λ p. p), (λ p. p))
  on_named h k (tree.lazy bs) = ((λ p. p), (λ p. p))
  on_named h k (tree.transparent ts) = ((λ p. p), (λ p. p))

-- A result of reading in one way is one of the other.
pub takes_same : {T R : Type 0} (P Q : Tree → T → Type 0) → ((t : Tree) (x : T) → P t x ↔ Q t x) → (t : Tree) (whole : Type 0) (left : R → Type 0) (r : Result (T × R) Fault)
    → Takes P t whole left r → Takes Q t whole left r
takes_same P Q h t whole left (Ok r) k = ((h t r.0).0 k.0, k.1)
takes_same P Q h t whole left (Err e) k = λ w. elim (k w) [ inl m ↦ inl m | inr n ↦ inr (λ x q. n x ((h t x).1 q)) ]
