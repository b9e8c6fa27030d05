-- If a lazy tree encodes no value, every tree that contains it cannot be read.
use Rattle.std.proofs.Common.{◌≡◌, ℕ, Bool, true, false, List, [], ◌∷◌, ◌++◌, Option, Some, None, refl, sym, subst, if◌then◌else◌}
use Rattle.amqp_data.specs.declared.error.Error.{Error}
use Rattle.amqp_data.specs.declared.error.Error.TheVariants as error
use Rattle.amqp_decode.specs.Encodes.{Encodes}
use Rattle.amqp_frame.specs.Whole.{is_encoded_value}
use Rattle.amqp_ser.specs.Tree.{Descriptor, Tree, Trees, Pairs, scalar, list, array, map, described, variant, lazy, transparent, no_trees, more}
use Rattle.amqp_ser.specs.Compounds.{all_trees, prepend, as_kind, as_map, as_variant, in_pairs, prepend_pair, only, tree_of_parts}
use Rattle.amqp_ser.specs.Marked.{marked_tree, of_encoded_value}
use Rattle.amqp_ser.specs.declared.kind.CompoundKind.{CompoundKind}
use Rattle.amqp_ser.specs.declared.kind.CompoundKind.TheVariants as kinds
use Rattle.amqp_ser.specs.declared.marker.Marker.{Marker}
use Rattle.amqp_ser.specs.declared.marker.Marker.TheVariants as marker
use Rattle.amqp_ser.proofs.Joins.{join, joined, all_trees-append, kind_none}
use Rattle.amqp_to_value.specs.ImageOf.{IsFault, error_of, refuses}
use Rattle.amqp_to_value.specs.Opened.{Opened, AreOpened, HasOpenedPairs, IsUnreadable}
use Rattle.amqp_to_value.specs.PendingDescriptors.{under_descriptors}
use Rattle.amqp_ser.specs.Meant.{as_descriptor, meant}
use Rattle.amqp_ser.specs.declared.pending.Pending.{Pending}
use Rattle.amqp_ser.specs.declared.pending.Pending.TheVariants as pending
use Rattle.amqp_to_value.specs.declared.value_error.ValueError.{ValueError}
use Rattle.amqp_to_value.specs.declared.value_error.ValueError.TheVariants as value_error

-- There is no tree, or a lazy tree in it encodes no value.
abbrev pub Lacks : Option Tree → Type 0
Lacks None = Unit {0}
Lacks (Some t) = IsUnreadable t

-- A fault is permitted in this case.
pub faulted : (e : Error) (o : Option Tree) → IsFault e → Lacks o → refuses e o
faulted error.OutOfMemory o f h = tt
faulted error.InvalidValue None f h = f
faulted error.InvalidFormatCode None f h = f
faulted error.UnexpectedEof None f h = f
faulted error.InvalidValue (Some t) f h = (f, h)
faulted error.InvalidFormatCode (Some t) f h = (f, h)
faulted error.UnexpectedEof (Some t) f h = (f, h)
faulted e o f h = absurd f

-- If `q` cannot be read whenever `o` cannot, an error that is permitted for `o` is permitted for
-- `q`.
pub unreadable_whole : (e : Error) (o q : Option Tree) → (Lacks o → Lacks q) → refuses e o → refuses e q
unreadable_whole error.OutOfMemory o q h r = tt
unreadable_whole error.InvalidValue None q h r = faulted error.InvalidValue q r (h tt)
unreadable_whole error.InvalidValue (Some t) q h r = faulted error.InvalidValue q r.0 (h r.1)
unreadable_whole error.InvalidFormatCode None q h r = faulted error.InvalidFormatCode q r (h tt)
unreadable_whole error.InvalidFormatCode (Some t) q h r = faulted error.InvalidFormatCode q r.0 (h r.1)
unreadable_whole error.UnexpectedEof None q h r = faulted error.UnexpectedEof q r (h tt)
unreadable_whole error.UnexpectedEof (Some t) q h r = faulted error.UnexpectedEof q r.0 (h r.1)
unreadable_whole e None q h r = absurd r
unreadable_whole e (Some t) q h r = absurd r.0

-- For a tree that can be read, only out of memory is permitted.
pub read_refused : (e : Error) (t u : Tree) → Opened t u → refuses e (Some t) → e ≡ error.OutOfMemory
read_refused error.OutOfMemory t u o r = refl
read_refused e t u o r = absurd (r.1 u o)

-- An unreadable tree is unreadable inside descriptors.
pub unreadable_in : (ds : List Descriptor) (t : Tree) → IsUnreadable t → IsUnreadable (under_descriptors ds t)
unreadable_in [] t h = h
unreadable_in (d ∷ ds) t h = λ u o. unreadable_in ds t h o.0 o.2

-- At least one of these trees cannot be read.
abbrev AreUnreadable : Trees → Type 0
AreUnreadable ts = (us : Trees) → AreOpened ts us → ⊥

lazy_join : (us : Trees) (t : Tree) (ts : Trees) → IsUnreadable t → AreUnreadable (join us (more t ts))
lazy_join no_trees t ts h = λ vs o. h o.0 o.3
lazy_join (more u us) t ts h = λ vs o. lazy_join us t ts h o.1 o.4

-- The keys and values in turn can be read if the pairs can.
abbrev PairsAlike : Option Pairs → Trees → Type 0
PairsAlike None ts = Unit {0}
PairsAlike (Some ps) ts = (qs : Pairs) → HasOpenedPairs ps qs → (us : Trees) × AreOpened ts us

pair_alike : (k v : Tree) (o : Option Pairs) (ts : Trees) → PairsAlike o ts → PairsAlike (prepend_pair k v o) (more k (more v ts))
pair_alike k v None ts h = tt
pair_alike k v (Some ps) ts h = λ qs o.
    let r = h o.2 o.6 in
    (more o.0 (more o.1 r.0), (o.0, more o.1 r.0, refl, o.4, (o.1, r.0, refl, o.5, r.1)))

pairs_alike : (ts : Trees) → PairsAlike (in_pairs ts) ts
pairs_alike no_trees = λ qs o. (no_trees, refl)
pairs_alike (more k no_trees) = tt
pairs_alike (more k (more v ts)) = pair_alike k v (in_pairs ts) ts (pairs_alike ts)

map_lacks : (o : Option Pairs) (ts : Trees) → PairsAlike o ts → AreUnreadable ts → Lacks (as_map o)
map_lacks None ts alike h = tt
map_lacks (Some ps) ts alike h = λ u o.
    let r = alike o.0 o.2 in
    h r.0 r.1

one_lacks : (ts : Trees) → AreUnreadable ts → Lacks (only ts)
one_lacks no_trees h = tt
one_lacks (more t no_trees) h = λ u o. h (more u no_trees) (u, no_trees, refl, o, refl)
one_lacks (more t (more u ts)) h = tt

variant_lacks : (i : ℕ) (ts : Trees) → AreUnreadable ts → Lacks (as_variant i (only ts))
variant_lacks i no_trees h = tt
variant_lacks i (more t no_trees) h = λ u o. h (more o.0 no_trees) (o.0, no_trees, refl, o.2, refl)
variant_lacks i (more t (more u ts)) h = tt

kind_lacks : (k : CompoundKind) (ts : Trees) → AreUnreadable ts → Lacks (as_kind k (Some ts))
kind_lacks kinds.List ts h = λ u o. h o.0 o.2
kind_lacks kinds.Map ts h = map_lacks (in_pairs ts) ts (pairs_alike ts) h
kind_lacks (kinds.Variant i) ts h = λ u o. h o.2.0 o.2.2
kind_lacks (kinds.NewtypeVariant i) ts h = variant_lacks i ts h
kind_lacks kinds.Single ts h = one_lacks ts h

joined_lacks : (k : CompoundKind) (a b : Option Trees) (t : Tree) → IsUnreadable t → Lacks (as_kind k (joined a (prepend (Some t) b)))
joined_lacks k None b t h = subst Lacks (sym (kind_none k)) tt
joined_lacks k (Some us) None t h = subst Lacks (sym (kind_none k)) tt
joined_lacks k (Some us) (Some ts) t h = kind_lacks k (join us (more t ts)) (lazy_join us t ts h)

-- An unreadable tree is unreadable under a marker.
marked_lacks : (m : Marker) (t : Tree) → IsUnreadable t → Lacks (marked_tree m t)
marked_lacks m (scalar s) h = absurd (h (scalar s) refl)
marked_lacks marker.Array (list ts) h = λ u o. h (list o.0) (o.0, refl, o.2)
marked_lacks marker.Transparent (list ts) h = λ u o. h (list o.0) (o.0, refl, o.2)
marked_lacks marker.Other (list ts) h = h
marked_lacks marker.Other (array ts) h = h
marked_lacks marker.Other (map ps) h = h
marked_lacks marker.Other (described d t) h = h
marked_lacks marker.Other (variant i t) h = h
marked_lacks marker.Other (lazy bs) h = h
marked_lacks marker.Other (transparent ts) h = h
marked_lacks _ _ h = tt

descriptor_lacks : (t : Tree) → IsUnreadable t → Lacks (as_descriptor (Some t))
descriptor_lacks (scalar s) h = absurd (h (scalar s) refl)
descriptor_lacks (list ts) h = tt
descriptor_lacks (array ts) h = tt
descriptor_lacks (map ps) h = tt
descriptor_lacks (described d t) h = tt
descriptor_lacks (variant i t) h = tt
descriptor_lacks (lazy bs) h = tt
descriptor_lacks (transparent ts) h = tt

pub meant_lacks : (u : Pending) (o : Option Tree) → Lacks o → Lacks (meant u o)
meant_lacks pending.Nothing o h = tt
meant_lacks pending.Descriptor None h = tt
meant_lacks pending.Descriptor (Some t) h = descriptor_lacks t h
meant_lacks (pending.Marker m) None h = tt
meant_lacks (pending.Marker m) (Some t) h = marked_lacks m t h

-- A compound is unreadable if a part is.
pub part_lacks : (u : Pending) (k : CompoundKind) (ps : List (Option Tree)) (t : Tree) (rest : List (Option Tree))
    → IsUnreadable t → Lacks (meant u (tree_of_parts k (ps ++ (Some t ∷ rest))))
unfolding tree_of_parts
part_lacks u k ps t rest h =
    subst (λ o. Lacks (meant u (as_kind k o))) (sym (all_trees-append ps (Some t ∷ rest)))
    (meant_lacks u _ (joined_lacks k (all_trees ps) (all_trees rest) t h))

-- Bytes that encode no value make no readable lazy tree.
encoded_lacks : (b : Bool) (bs : List ℕ) → ((t : Tree) → Encodes 256 bs t → ⊥) → Lacks (if b then Some (lazy bs) else None)
encoded_lacks true bs h = h
encoded_lacks false bs h = tt

-- The error for bytes that were not decoded is permitted.
pub lazy_refused : (bs : List ℕ) (e : Error) (r : ValueError) → (e ≡ error.OutOfMemory → r ≡ value_error.OutOfMemory) → ((e ≡ error.OutOfMemory → ⊥) → IsFault (error_of r))
    → ((e ≡ error.OutOfMemory → ⊥) → (t : Tree) → Encodes 256 bs t → ⊥) → refuses (error_of r) (of_encoded_value bs)
lazy_refused bs error.OutOfMemory r memory fault none = subst (λ x. refuses (error_of x) (of_encoded_value bs)) (sym (memory refl)) tt
lazy_refused bs error.InvalidValue r memory fault none = let no : error.InvalidValue ≡ error.OutOfMemory → ⊥ = λ e. cc in faulted (error_of r) (of_encoded_value bs) (fault no) (encoded_lacks (is_encoded_value bs) bs (none no))
lazy_refused bs error.InvalidFormatCode r memory fault none = let no : error.InvalidFormatCode ≡ error.OutOfMemory → ⊥ = λ e. cc in faulted (error_of r) (of_encoded_value bs) (fault no) (encoded_lacks (is_encoded_value bs) bs (none no))
lazy_refused bs error.UnexpectedEof r memory fault none = let no : error.UnexpectedEof ≡ error.OutOfMemory → ⊥ = λ e. cc in faulted (error_of r) (of_encoded_value bs) (fault no) (encoded_lacks (is_encoded_value bs) bs (none no))
lazy_refused bs error.TooLong r memory fault none = let no : error.TooLong ≡ error.OutOfMemory → ⊥ = λ e. cc in faulted (error_of r) (of_encoded_value bs) (fault no) (encoded_lacks (is_encoded_value bs) bs (none no))
lazy_refused bs error.Io r memory fault none = let no : error.Io ≡ error.OutOfMemory → ⊥ = λ e. cc in faulted (error_of r) (of_encoded_value bs) (fault no) (encoded_lacks (is_encoded_value bs) bs (none no))
lazy_refused bs (error.Message w) r memory fault none = let no : error.Message w ≡ error.OutOfMemory → ⊥ = λ e. cc in faulted (error_of r) (of_encoded_value bs) (fault no) (encoded_lacks (is_encoded_value bs) bs (none no))
