-- Fields that are read from a list, an array or a map.
use Rattle.std.proofs.Common.{◌≡◌, ◌⊎◌, inl, inr, ℕ, Bool, List, refl, sym, ap, ◌∙◌, subst}
use Rattle.amqp_ser.specs.Tree as tree
use Rattle.amqp_ser.specs.Tree.{Tree, Trees, Pairs, Scalar, trees_of}
use Rattle.amqp_de.specs.Fields.{FieldSource, by_position, OnFields, OnEntries, OnNamed}
use Rattle.amqp_de.specs.Present.{IsImage, all_images, short_list, short_map}
use Rattle.amqp_de.specs.SourceKinds.{source_kind_of, source_kind_of_scalar, HasSourceKind}
use Rattle.amqp_de.specs.declared.source_kind.SourceKind.{SourceKind}
use Rattle.amqp_de.specs.declared.source_kind.SourceKind.TheVariants as form
use Rattle.amqp_de.proofs.Lists.{list_of_trees, is_fields, is_entries}

scalar_form : (s : Scalar) → (source_kind_of_scalar s ≡ form.Uint) ⊎ (source_kind_of_scalar s ≡ form.Other)
scalar_form tree.null = inr refl
scalar_form (tree.bool b) = inr refl
scalar_form (tree.ubyte n) = inr refl
scalar_form (tree.ushort n) = inr refl
scalar_form (tree.uint n) = inl refl
scalar_form (tree.ulong n) = inr refl
scalar_form (tree.byte z) = inr refl
scalar_form (tree.short z) = inr refl
scalar_form (tree.int z) = inr refl
scalar_form (tree.long z) = inr refl
scalar_form (tree.float n) = inr refl
scalar_form (tree.double n) = inr refl
scalar_form (tree.decimal32 bs) = inr refl
scalar_form (tree.decimal64 bs) = inr refl
scalar_form (tree.decimal128 bs) = inr refl
scalar_form (tree.char n) = inr refl
scalar_form (tree.timestamp z) = inr refl
scalar_form (tree.uuid bs) = inr refl
scalar_form (tree.binary bs) = inr refl
scalar_form (tree.string bs) = inr refl
scalar_form (tree.symbol bs) = inr refl

no_scalar : (s : Scalar) (f : SourceKind) → f ≡ source_kind_of_scalar s → (f ≡ form.Uint → ⊥) → (f ≡ form.Other → ⊥) → ⊥
no_scalar s f e a b = elim (scalar_form s) [ inl i ↦ a (e ∙ i) | inr o ↦ b (e ∙ o) ]

pub list_form : (t : Tree) → form.List ≡ source_kind_of t → (ts : Trees) × (t ≡ tree.list ts)
list_form (tree.list us) e = (us, refl)
list_form (tree.array us) e = absurd cc
list_form (tree.map ps) e = absurd cc
list_form (tree.scalar s) e = absurd (no_scalar s form.List e (λ z. absurd cc) (λ z. absurd cc))
list_form (tree.described d u) e = absurd cc
list_form (tree.variant i u) e = absurd cc
list_form (tree.lazy bs) e = absurd cc
list_form (tree.transparent us) e = absurd cc

pub array_form : (t : Tree) → form.Array ≡ source_kind_of t → (ts : Trees) × (t ≡ tree.array ts)
array_form (tree.list us) e = absurd cc
array_form (tree.array us) e = (us, refl)
array_form (tree.map ps) e = absurd cc
array_form (tree.scalar s) e = absurd (no_scalar s form.Array e (λ z. absurd cc) (λ z. absurd cc))
array_form (tree.described d u) e = absurd cc
array_form (tree.variant i u) e = absurd cc
array_form (tree.lazy bs) e = absurd cc
array_form (tree.transparent us) e = absurd cc

pub map_form : (t : Tree) → form.Map ≡ source_kind_of t → (ps : Pairs) × (t ≡ tree.map ps)
map_form (tree.list us) e = absurd cc
map_form (tree.array us) e = absurd cc
map_form (tree.map ps) e = (ps, refl)
map_form (tree.scalar s) e = absurd (no_scalar s form.Map e (λ z. absurd cc) (λ z. absurd cc))
map_form (tree.described d u) e = absurd cc
map_form (tree.variant i u) e = absurd cc
map_form (tree.lazy bs) e = absurd cc
map_form (tree.transparent us) e = absurd cc

module _ (K : FieldSource → Type 0) (t : Tree) where
  -- What is read from a list as fields is read from a list, an array or a map, and the other way round if it is a list.
  pub fields_named : OnFields K t → OnNamed K t
  unfolding OnNamed
  fields_named h = let (ts, is, k) = is_fields K t h in rw is k

  pub named_fields : (ts : Trees) → t ≡ tree.list ts → OnNamed K t → OnFields K t
  unfolding OnNamed OnFields
  named_fields ts is h = let k : OnNamed K (tree.list ts) = subst (OnNamed K) is h in rw is k

  pub to_array_fields : (ts : List Tree) → t ≡ tree.array (trees_of ts) → K (by_position ts) → OnNamed K t
  unfolding OnNamed
  to_array_fields ts is k = rw is (subst (λ us. K (by_position us)) (sym (list_of_trees ts)) k)

  pub of_array_fields : (ts : List Tree) → t ≡ tree.array (trees_of ts) → OnNamed K t → K (by_position ts)
  unfolding OnNamed
  of_array_fields ts is h = let k : OnNamed K (tree.array (trees_of ts)) = subst (OnNamed K) is h in subst (λ us. K (by_position us)) (list_of_trees ts) k

  -- The same for a map.
  pub entries_named : OnEntries K t → OnNamed K t
  unfolding OnNamed
  entries_named h = let (ps, is, k) = is_entries K t h in rw is k

  pub named_entries : (ps : Pairs) → t ≡ tree.map ps → OnNamed K t → OnEntries K t
  unfolding OnNamed OnEntries
  named_entries ps is h = let k : OnNamed K (tree.map ps) = subst (OnNamed K) is h in rw is k

-- Fields are read from a list, an array or a map alone.
pub named_form : (K : FieldSource → Type 0) (t : Tree) → OnNamed K t → (form.Uint ≡ source_kind_of t → ⊥) × (form.Other ≡ source_kind_of t → ⊥)
unfolding OnNamed
named_form K (tree.list ts) h = (λ e. absurd cc, λ e. absurd cc)
named_form K (tree.array ts) h = (λ e. absurd cc, λ e. absurd cc)
named_form K (tree.map ps) h = (λ e. absurd cc, λ e. absurd cc)
named_form K (tree.scalar s) h = absurd h
named_form K (tree.described d u) h = absurd h
named_form K (tree.variant i u) h = absurd h
named_form K (tree.lazy bs) h = absurd h
named_form K (tree.transparent ts) h = absurd h

no_map_list : (t : Tree) (ps : Pairs) (ts : Trees) → t ≡ tree.map ps → t ≡ tree.list ts → ⊥
no_map_list t ps ts p q = let no : tree.map ps ≡ tree.list ts = sym p ∙ q in absurd cc

module _ (ns : List (List ℕ)) (fs : List (Bool × Tree)) (t : Tree) where
  -- An image of fields that is a list, or a map, and that no other value is one.
  pub list_image : (ts : Trees) → t ≡ tree.list ts → IsImage ns fs t → (t ≡ tree.list (trees_of (all_images fs))) ⊎ (t ≡ short_list fs)
  unfolding short_map
  list_image ts is i = elim i [ inl all ↦ inl all | inr j ↦ elim j [ inl short ↦ inr short | inr entries ↦ absurd (no_map_list t _ ts entries is) ] ]

  pub map_image : (ps : Pairs) → t ≡ tree.map ps → IsImage ns fs t → t ≡ short_map ns fs
  unfolding short_list
  map_image ps is i = elim i [ inl all ↦ absurd (no_map_list t ps _ is all) | inr j ↦ elim j [ inl short ↦ absurd (no_map_list t ps _ is short) | inr entries ↦ entries ] ]

  pub no_image : (f : SourceKind) → f ≡ source_kind_of t → (f ≡ form.List → ⊥) → (f ≡ form.Map → ⊥) → IsImage ns fs t → ⊥
  unfolding short_list short_map
  no_image f e no_list no_map i = elim i [ inl all ↦ no_list (e ∙ ap source_kind_of all) | inr j ↦ elim j [ inl short ↦ no_list (e ∙ ap source_kind_of short) | inr entries ↦ no_map (e ∙ ap source_kind_of entries) ] ]

-- What a value looks to be, if it is told, is its kind.
pub source_kind_is : (f : SourceKind) (t : Tree) → HasSourceKind f t → (f ≡ form.Other → ⊥) → f ≡ source_kind_of t
source_kind_is form.List t e told = e
source_kind_is form.Array t e told = e
source_kind_is form.Map t e told = e
source_kind_is form.Uint t e told = e
source_kind_is form.Other t e told = absurd (told refl)

pub looks_of : (f : SourceKind) (t : Tree) → f ≡ source_kind_of t → HasSourceKind f t
looks_of form.List t e = e
looks_of form.Array t e = e
looks_of form.Map t e = e
looks_of form.Uint t e = e
looks_of form.Other t e = tt
