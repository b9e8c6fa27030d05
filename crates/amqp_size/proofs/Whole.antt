-- The tree of a compound that has ended.
use Rattle.std.proofs.Common.{◌≡◌, ℕ, ◌+◌, ◌*◌, List, ◌++◌, Option, Some, None, true, false, Result, length, refl, ap, sym, ◌∙◌, subst, arith}
use Rattle.amqp_size.specs.declared.size_error.SizeError.{SizeError}
use Rattle.amqp_ser.specs.Tree.{uint, Tree, Trees, Pairs, list, map, variant, count, pair_count}
use Rattle.amqp_ser.specs.Limits.{fits}
use Rattle.amqp_ser.specs.Scalars.{scalar_form}
use Rattle.amqp_ser.specs.Encoding.{encoding, payload, encoding_each, encoding_pairs}
use Rattle.amqp_ser.specs.Writable.{uniform_arrays, within_limits, within_limits_each, within_limits_pairs, inside}
use Rattle.amqp_ser.specs.Ranged.{AreRanged, HasRangedPairs}
use Rattle.amqp_ser.specs.Compounds.{as_kind, as_map, as_variant, in_pairs, only, tree_of_parts, complete}
use Rattle.amqp_ser.specs.Marked.{with_marker, marked_tree}
use Rattle.amqp_ser.specs.declared.kind.CompoundKind.{CompoundKind}
use Rattle.amqp_ser.specs.declared.kind.CompoundKind.TheVariants as kinds
use Rattle.amqp_ser.specs.declared.marker.Marker.TheVariants as marker
use Rattle.amqp_ser.proofs.Bools.{both}
use Rattle.amqp_ser.proofs.Pairing.{Pairing, pairing, paired-even}
use Rattle.amqp_size.specs.Position.{position_of, meant, resolved_kind_of, is_array, the_marker}
use Rattle.amqp_size.specs.SizeSerializer.{AtPosition, HoldsGathered, body_bytes}
use Rattle.amqp_size.specs.Width.{map_form_len, list_form_len, uint_form_len}
use Rattle.amqp_size.specs.WholePosition.{Position}
use Rattle.amqp_size.specs.WholeContext.{Context}
use Rattle.amqp_size.specs.WholeContext as context
use Rattle.amqp_size.specs.declared.scalar_marker.ScalarMarker.{ScalarMarker}
use Rattle.amqp_size.specs.declared.scalar_marker.ScalarMarker.TheVariants as scalar_marker
use Rattle.amqp_size.specs.declared.resolved_kind.ResolvedKind.TheVariants as resolved_kind
use Rattle.amqp_size.specs.declared.serializer.SizeSerializer.{SizeSerializer}
use Rattle.amqp_size.specs.declared.open_compound.OpenCompound.{OpenCompound}
use Rattle.amqp_size.proofs.Lengths.{length-counted, length-list_form, length-variant}

-- A result for the tree under the pending marker is a result for the tree that is serialized.
pub stands : (u : Context) (q : Position) (o : Option Tree) (x : Tree) (r : Result ℕ SizeError) (after : Context) → position_of u ≡ q → meant u o ≡ Some x → AtPosition q (Some x) r after → AtPosition (position_of u) (meant u o) r after
stands u q o x r after a b h = subst (λ w. AtPosition w (meant u o) r after) (sym a) (subst (λ w. AtPosition q w r after) (sym b) h)

pub stands_none : (u : Context) (q : Position) (o : Option Tree) (r : Result ℕ SizeError) (after : Context) → position_of u ≡ q → meant u o ≡ None → AtPosition q None r after → AtPosition (position_of u) (meant u o) r after
stands_none u q o r after a b h = subst (λ w. AtPosition w (meant u o) r after) (sym a) (subst (λ w. AtPosition q w r after) (sym b) h)

pub map_shape : (u : Context) (k : CompoundKind) → resolved_kind_of u k ≡ resolved_kind.Map → (u ≡ context.Unmarked (position_of u)) × (k ≡ kinds.Map)
map_shape (context.Unmarked p) kinds.List h = cc
map_shape (context.Unmarked p) kinds.Map h = (refl, refl)
map_shape (context.Unmarked p) (kinds.Variant i) h = cc
map_shape (context.Unmarked p) (kinds.NewtypeVariant i) h = cc
map_shape (context.Unmarked p) kinds.Single h = cc
map_shape (context.Array p) kinds.List h = cc
map_shape (context.Array p) kinds.Map h = cc
map_shape (context.Array p) (kinds.Variant i) h = cc
map_shape (context.Array p) (kinds.NewtypeVariant i) h = cc
map_shape (context.Array p) kinds.Single h = cc
map_shape (context.Transparent p) kinds.List h = cc
map_shape (context.Transparent p) kinds.Map h = cc
map_shape (context.Transparent p) (kinds.Variant i) h = cc
map_shape (context.Transparent p) (kinds.NewtypeVariant i) h = cc
map_shape (context.Transparent p) kinds.Single h = cc
map_shape (context.Scalar m p) kinds.List h = cc
map_shape (context.Scalar m p) kinds.Map h = cc
map_shape (context.Scalar m p) (kinds.Variant i) h = cc
map_shape (context.Scalar m p) (kinds.NewtypeVariant i) h = cc
map_shape (context.Scalar m p) kinds.Single h = cc
map_shape (context.Nothing p) kinds.List h = cc
map_shape (context.Nothing p) kinds.Map h = cc
map_shape (context.Nothing p) (kinds.Variant i) h = cc
map_shape (context.Nothing p) (kinds.NewtypeVariant i) h = cc
map_shape (context.Nothing p) kinds.Single h = cc

pub fields_shape : (i : ℕ) (u : Context) (k : CompoundKind) → resolved_kind_of u k ≡ resolved_kind.Variant i → (u ≡ context.Unmarked (position_of u)) × (k ≡ kinds.Variant i)
fields_shape j (context.Unmarked p) kinds.List h = cc
fields_shape j (context.Unmarked p) kinds.Map h = cc
fields_shape j (context.Unmarked p) (kinds.Variant i) h = (refl, cc)
fields_shape j (context.Unmarked p) (kinds.NewtypeVariant i) h = cc
fields_shape j (context.Unmarked p) kinds.Single h = cc
fields_shape j (context.Array p) kinds.List h = cc
fields_shape j (context.Array p) kinds.Map h = cc
fields_shape j (context.Array p) (kinds.Variant i) h = cc
fields_shape j (context.Array p) (kinds.NewtypeVariant i) h = cc
fields_shape j (context.Array p) kinds.Single h = cc
fields_shape j (context.Transparent p) kinds.List h = cc
fields_shape j (context.Transparent p) kinds.Map h = cc
fields_shape j (context.Transparent p) (kinds.Variant i) h = cc
fields_shape j (context.Transparent p) (kinds.NewtypeVariant i) h = cc
fields_shape j (context.Transparent p) kinds.Single h = cc
fields_shape j (context.Scalar m p) kinds.List h = cc
fields_shape j (context.Scalar m p) kinds.Map h = cc
fields_shape j (context.Scalar m p) (kinds.Variant i) h = cc
fields_shape j (context.Scalar m p) (kinds.NewtypeVariant i) h = cc
fields_shape j (context.Scalar m p) kinds.Single h = cc
fields_shape j (context.Nothing p) kinds.List h = cc
fields_shape j (context.Nothing p) kinds.Map h = cc
fields_shape j (context.Nothing p) (kinds.Variant i) h = cc
fields_shape j (context.Nothing p) (kinds.NewtypeVariant i) h = cc
fields_shape j (context.Nothing p) kinds.Single h = cc

no_scalar_list : (m : ScalarMarker) (ts : Trees) → marked_tree (the_marker m) (list ts) ≡ None
no_scalar_list scalar_marker.Symbol ts = refl
no_scalar_list scalar_marker.Timestamp ts = refl
no_scalar_list scalar_marker.Decimal32 ts = refl
no_scalar_list scalar_marker.Decimal64 ts = refl
no_scalar_list scalar_marker.Decimal128 ts = refl
no_scalar_list scalar_marker.Uuid ts = refl
no_scalar_list scalar_marker.Lazy ts = refl

no_scalar_map : (m : ScalarMarker) (ps : Pairs) → marked_tree (the_marker m) (map ps) ≡ None
no_scalar_map scalar_marker.Symbol ps = refl
no_scalar_map scalar_marker.Timestamp ps = refl
no_scalar_map scalar_marker.Decimal32 ps = refl
no_scalar_map scalar_marker.Decimal64 ps = refl
no_scalar_map scalar_marker.Decimal128 ps = refl
no_scalar_map scalar_marker.Uuid ps = refl
no_scalar_map scalar_marker.Lazy ps = refl

no_scalar_variant : (m : ScalarMarker) (i : ℕ) (t : Tree) → marked_tree (the_marker m) (variant i t) ≡ None
no_scalar_variant scalar_marker.Symbol i t = refl
no_scalar_variant scalar_marker.Timestamp i t = refl
no_scalar_variant scalar_marker.Decimal32 i t = refl
no_scalar_variant scalar_marker.Decimal64 i t = refl
no_scalar_variant scalar_marker.Decimal128 i t = refl
no_scalar_variant scalar_marker.Uuid i t = refl
no_scalar_variant scalar_marker.Lazy i t = refl

no_array_map : (o : Option Pairs) → with_marker marker.Array (as_map o) ≡ None
no_array_map None = refl
no_array_map (Some ps) = refl

no_array_variant : (i : ℕ) (o : Option Tree) → with_marker marker.Array (as_variant i o) ≡ None
no_array_variant i None = refl
no_array_variant i (Some t) = refl

as_map_scalar : (m : ScalarMarker) (o : Option Pairs) → with_marker (the_marker m) (as_map o) ≡ None
as_map_scalar m None = refl
as_map_scalar m (Some ps) = no_scalar_map m ps

as_variant_scalar : (m : ScalarMarker) (i : ℕ) (o : Option Tree) → with_marker (the_marker m) (as_variant i o) ≡ None
as_variant_scalar m i None = refl
as_variant_scalar m i (Some t) = no_scalar_variant m i t

no_transparent_map : (o : Option Pairs) → with_marker marker.Transparent (as_map o) ≡ None
no_transparent_map None = refl
no_transparent_map (Some ps) = refl

no_transparent_variant : (i : ℕ) (o : Option Tree) → with_marker marker.Transparent (as_variant i o) ≡ None
no_transparent_variant i None = refl
no_transparent_variant i (Some t) = refl

-- No compound is a scalar, except a single one.
no_scalar : (p : Position) (m : ScalarMarker) (k : CompoundKind) (o : Option Trees) → resolved_kind_of (context.Scalar m p) k ≡ resolved_kind.Refused → with_marker (the_marker m) (as_kind k o) ≡ None
no_scalar p m kinds.List None h = refl
no_scalar p m kinds.Map None h = refl
no_scalar p m (kinds.Variant i) None h = refl
no_scalar p m (kinds.NewtypeVariant i) None h = refl
no_scalar p m kinds.List (Some ts) h = no_scalar_list m ts
no_scalar p m kinds.Map (Some ts) h = as_map_scalar m (in_pairs ts)
no_scalar p m (kinds.Variant i) (Some ts) h = no_scalar_variant m i (list ts)
no_scalar p m (kinds.NewtypeVariant i) (Some ts) h = as_variant_scalar m i (only ts)
no_scalar p m kinds.Single o h = cc

pub refused_shape : (u : Context) (k : CompoundKind) (o : Option Trees) → resolved_kind_of u k ≡ resolved_kind.Refused → meant u (as_kind k o) ≡ None
refused_shape (context.Unmarked p) kinds.List o h = cc
refused_shape (context.Unmarked p) kinds.Map o h = cc
refused_shape (context.Unmarked p) (kinds.Variant i) o h = cc
refused_shape (context.Unmarked p) (kinds.NewtypeVariant i) o h = cc
refused_shape (context.Unmarked p) kinds.Single o h = cc
refused_shape (context.Array p) kinds.List o h = cc
refused_shape (context.Array p) kinds.Map None h = refl
refused_shape (context.Array p) kinds.Map (Some ts) h = no_array_map (in_pairs ts)
refused_shape (context.Array p) (kinds.Variant i) None h = refl
refused_shape (context.Array p) (kinds.Variant i) (Some ts) h = refl
refused_shape (context.Array p) (kinds.NewtypeVariant i) None h = refl
refused_shape (context.Array p) (kinds.NewtypeVariant i) (Some ts) h = no_array_variant i (only ts)
refused_shape (context.Array p) kinds.Single o h = cc
refused_shape (context.Transparent p) kinds.List o h = cc
refused_shape (context.Transparent p) kinds.Map None h = refl
refused_shape (context.Transparent p) kinds.Map (Some ts) h = no_transparent_map (in_pairs ts)
refused_shape (context.Transparent p) (kinds.Variant i) None h = refl
refused_shape (context.Transparent p) (kinds.Variant i) (Some ts) h = refl
refused_shape (context.Transparent p) (kinds.NewtypeVariant i) None h = refl
refused_shape (context.Transparent p) (kinds.NewtypeVariant i) (Some ts) h = no_transparent_variant i (only ts)
refused_shape (context.Transparent p) kinds.Single o h = cc
refused_shape (context.Scalar m p) k o h = no_scalar p m k o h
refused_shape (context.Nothing p) k o h = refl

-- A map that has ended: its tree and its lengths.
pub record MapEnd (start : SizeSerializer) (kind : CompoundKind) (compound : OpenCompound) (ps : List (Option Tree)) : Type 0 where
  pub pairs : Pairs
  pub is : meant start.context (tree_of_parts kind ps) ≡ Some (map pairs)
  pub within_limits_it : within_limits (map pairs) ≡ true
  pub uniform_arrays_it : uniform_arrays (map pairs) ≡ true
  pub inside_it : inside (map pairs) ≡ true
  pub ordinary : length (encoding (map pairs)) ≡ map_form_len compound.sum
  pub wide : length (payload (map pairs)) ≡ compound.sum + 8
  pub ranged_it : HasRangedPairs pairs

pub map_end : (start : SizeSerializer) (kind : CompoundKind) (compound : OpenCompound) (ps : List (Option Tree)) → HoldsGathered start kind compound ps → complete kind ps ≡ true → compound.resolved_kind ≡ resolved_kind.Map → MapEnd start kind compound ps
unfolding tree_of_parts
map_end start kind compound ps h done s =
    let inv = map_shape start.context kind (sym h.resolved_kind ∙ s) in
    let even = sym (paired-even ps h.ts h.trees) ∙ subst (λ k. complete k ps ≡ true) inv.1 done in
    let p : Pairing h.ts = pairing h.ts even in
    let tree : tree_of_parts kind ps ≡ Some (map p.pairs) = ap (λ k. tree_of_parts k ps) inv.1 ∙ ap (as_kind kinds.Map) h.trees ∙ ap as_map p.are in
    let plain : meant start.context (tree_of_parts kind ps) ≡ tree_of_parts kind ps = ap (λ u. meant u (tree_of_parts kind ps)) inv.0 in
    let none_array : is_array compound.resolved_kind ≡ false = ap is_array s in
    let sum : compound.sum ≡ length (encoding_pairs p.pairs) = h.accepted.sum ∙ ap (λ b. length (body_bytes b h.ts)) none_array ∙ ap length (sym p.bytes) in
    record {
      pairs = p.pairs;
      is = plain ∙ tree;
      within_limits_it = both (fits (length (encoding_pairs p.pairs))) (within_limits_pairs p.pairs) (ap fits (sym sum) ∙ h.accepted.fits_sum) (p.within_too ∙ h.accepted.within_limits_parts);
      uniform_arrays_it = p.alike_too ∙ h.accepted.uniform_arrays_parts;
      inside_it = p.inside_too ∙ h.accepted.inside_parts;
      ordinary = length-counted 0xc1 0xd1 (pair_count p.pairs * 2) (encoding_pairs p.pairs) ∙ ap map_form_len (sym sum);
      wide = omega arith;
      ranged_it = p.ranged_too h.accepted.ranged_parts;
    }

-- A variant with fields that has ended.
pub record FieldsEnd (i : ℕ) (start : SizeSerializer) (kind : CompoundKind) (ps : List (Option Tree)) (size : ℕ) : Type 0 where
  pub ts : Trees
  pub is : meant start.context (tree_of_parts kind ps) ≡ Some (variant i (list ts))
  pub within_limits_it : within_limits (list ts) ≡ true
  pub uniform_arrays_it : uniform_arrays (list ts) ≡ true
  pub inside_it : inside (list ts) ≡ true
  pub bytes : length (scalar_form (uint i) ++ encoding (list ts)) ≡ uint_form_len i + size
  pub ranged_it : AreRanged ts

pub fields_end : (i : ℕ) (start : SizeSerializer) (kind : CompoundKind) (compound : OpenCompound) (ps : List (Option Tree)) (size : ℕ) → HoldsGathered start kind compound ps → compound.resolved_kind ≡ resolved_kind.Variant i → size ≡ list_form_len compound.sum → FieldsEnd i start kind ps size
unfolding tree_of_parts
fields_end i start kind compound ps size h s e =
    let inv = fields_shape i start.context kind (sym h.resolved_kind ∙ s) in
    let tree : tree_of_parts kind ps ≡ Some (variant i (list h.ts)) = ap (λ k. tree_of_parts k ps) inv.1 ∙ ap (as_kind (kinds.Variant i)) h.trees in
    let plain : meant start.context (tree_of_parts kind ps) ≡ tree_of_parts kind ps = ap (λ u. meant u (tree_of_parts kind ps)) inv.0 in
    let none_array : is_array compound.resolved_kind ≡ false = ap is_array s in
    let sum : compound.sum ≡ length (encoding_each h.ts) = h.accepted.sum ∙ ap (λ b. length (body_bytes b h.ts)) none_array in
    let len : size ≡ length (encoding (list h.ts)) = e ∙ ap list_form_len sum ∙ sym (length-list_form (count h.ts) (encoding_each h.ts)) in
    record {
      ts = h.ts;
      is = plain ∙ tree;
      within_limits_it = both (fits (length (encoding_each h.ts))) (within_limits_each h.ts) (ap fits (sym sum) ∙ h.accepted.fits_sum) h.accepted.within_limits_parts;
      uniform_arrays_it = h.accepted.uniform_arrays_parts;
      inside_it = h.accepted.inside_parts;
      bytes = length-variant i (list h.ts) size len;
      ranged_it = h.accepted.ranged_parts;
    }
