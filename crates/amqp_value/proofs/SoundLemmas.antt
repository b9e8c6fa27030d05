-- Conditions under which a value is sound. A sound value is plain and is its own image.
use Rattle.std.proofs.Common.{◌≡◌, Bool, true, false, true≢false, if◌then◌else◌, List, [], ◌∷◌, Box, Vec, Global, map, refl, sym, ap, ◌∙◌, subst}
use Rattle.std.specs.Map.{keys_of}
use Rattle.amqp_data.specs.Items.{array_items}
use Rattle.amqp_data.specs.Pairs.{entries_of, insert_pair, AreDistinct}
use Rattle.amqp_data.specs.Pairs as pairs
use Rattle.amqp_data.specs.declared.array.Array.{Array}
use Rattle.amqp_data.specs.declared.described.Described.{Described}
use Rattle.amqp_data.specs.declared.ordered_map.OrderedMap.{OrderedMap}
use Rattle.amqp_ser.specs.Tree as tree
use Rattle.amqp_ser.specs.Tree.{Tree, Trees, Pairs, scalar, list, array, described, variant, lazy, transparent, no_trees, more, no_pairs, pair, is_transparent}
use Rattle.amqp_ser.specs.Same.{same_tree}
use Rattle.amqp_ser.specs.Untyped.{IsUntyped, AreUntyped, HasUntypedPairs}
use Rattle.amqp_value.specs.AsMap.{read_as_map, each_as_map, pairs_as_map}
use Rattle.amqp_value.specs.Image.{image, images, images_onto, insert_tree}
use Rattle.amqp_value.specs.Plain.{IsPlain, ArePlain, HasPlainPairs, LacksImage}
use Rattle.amqp_value.specs.Sound.{LacksKey, HasDistinctKeys, HaveDistinctKeys, AreDistinctPairs, IsSound, AreSound, HaveSoundParts, AreSoundEntries}
use Rattle.amqp_value.specs.TreeOf.{tree_of, tree_step, all_of, pairs_trees}
use Rattle.amqp_value.specs.declared.value.Value.{Value, roll-Value, ind-Value, map-Value, fold-roll-Value}
use Rattle.amqp_value.specs.declared.value.Value.TheVariants.{Described as DescribedValue, List as ListValue, Map as MapValue, Array as ArrayValue}
use Rattle.amqp_value.specs.declared.value.Value.TheOpen.{Value-F}
use Rattle.amqp_value.proofs.ImageLemmas.{image-plain}
use Rattle.amqp_value.proofs.SameLemmas.{same-equal, same-itself}
use Rattle.amqp_value.proofs.Sameness.{equal, equal-is_same}
use Rattle.amqp_value.proofs.TreeLemmas.{tree_of-Described, tree_of-List, tree_of-Map, tree_of-Array, pairs_trees-insert}

different : (t u : Tree) (b : Bool) → same_tree t u ≡ false → same_tree u t ≡ b → b ≡ false
different t u true other is =
    absurd (true≢false (sym (same-itself t) ∙ subst (λ x. same_tree t x ≡ false) (same-equal u t is) other))
different t u false other is = refl

-- If the first tree is not the same as the second, the second is not the same as the first.
other_way : (t u : Tree) → same_tree t u ≡ false → same_tree u t ≡ false
other_way t u other = different t u (same_tree u t) other refl

module _ (k v : Tree) where
  still_lacks : (b : Bool) (l m w : Tree) (ps : Pairs) → LacksKey l (pair m w ps) → LacksKey l (insert_tree ps k v)
      → LacksKey l (if b then pair m v ps else pair m w (insert_tree ps k v))
  still_lacks true l m w ps h rest = h
  still_lacks false l m w ps h rest = (h.0, rest)

  -- An absent key remains absent when another key is inserted.
  lacks_inserted : (l : Tree) (ps : Pairs) → same_tree l k ≡ false → LacksKey l ps → LacksKey l (insert_tree ps k v)
  lacks_inserted l no_pairs other h = (other, tt)
  lacks_inserted l (pair m w ps) other h = still_lacks (same_tree k m) l m w ps h (lacks_inserted l ps other h.1)

  distinct_either : (b : Bool) (l w : Tree) (ps : Pairs) → same_tree k l ≡ b → AreDistinctPairs (pair l w ps) → HasDistinctKeys v
      → AreDistinctPairs (insert_tree ps k v) → AreDistinctPairs (if b then pair l v ps else pair l w (insert_tree ps k v))
  distinct_either true l w ps is h hv rest = (h.0, h.1, hv, h.3)
  distinct_either false l w ps is h hv rest = (lacks_inserted l ps (other_way k l is) h.0, h.1, h.2, rest)

  -- The keys remain distinct when a pair is inserted.
  distinct_inserted : (ps : Pairs) → AreDistinctPairs ps → HasDistinctKeys k → HasDistinctKeys v → AreDistinctPairs (insert_tree ps k v)
  distinct_inserted no_pairs h hk hv = (tt, hk, hv, tt)
  distinct_inserted (pair l w ps) h hk hv = distinct_either (same_tree k l) l w ps refl h hv (distinct_inserted ps h.3 hk hv)

mutual
  -- The image of any tree has distinct keys.
  pub image-distinct : (t : Tree) → HasDistinctKeys (image t)
  image-distinct (scalar s) = tt
  image-distinct (list ts) = images-distinct ts
  image-distinct (array ts) = images-distinct ts
  image-distinct (tree.map ps) = images_onto-distinct ps no_pairs tt
  image-distinct (described d t) = image-distinct t
  image-distinct (variant n t) = (tt, tt, image-distinct t, tt)
  image-distinct (lazy bs) = tt
  image-distinct (transparent ts) = images-distinct ts

  images-distinct : (ts : Trees) → HaveDistinctKeys (images ts)
  images-distinct no_trees = tt
  images-distinct (more t ts) = (image-distinct t, images-distinct ts)

  images_onto-distinct : (ps done : Pairs) → AreDistinctPairs done → AreDistinctPairs (images_onto ps done)
  images_onto-distinct no_pairs done h = h
  images_onto-distinct (pair k v ps) done h =
      images_onto-distinct ps (insert_tree done (image k) (image v)) (distinct_inserted (image k) (image v) done h (image-distinct k) (image-distinct v))

-- The tree of a value contains no variant and nothing lazy or transparent.
abbrev Such : Type 0
Such = (v : Value) × IsUntyped (tree_of v)

abbrev plain : Such → Value
plain e = e.0

abbrev both : Such × Such → Value × Value
both e = (plain e.0, plain e.1)

lists : (es : List Such) → AreUntyped (all_of (map plain es))
lists [] = tt
lists (e ∷ es) = (e.1, lists es)

entries : (es : List (Such × Such)) → HasUntypedPairs (pairs_trees (map both es))
entries [] = tt
entries (e ∷ es) = (e.0.1, e.1.1, entries es)

-- One level of the tree.
abbrev layer : Value-F Such → Tree
layer y = tree_step (map-Value Value Tree tree_of (map-Value Such Value plain y))

core : (y : Value-F Such) → IsUntyped (layer y)
core (Value-F.Described d) = d.value.value.1
core (Value-F.List v) = lists v.items
core (Value-F.Map m) = entries m.entries.items
core (Value-F.Array a) = lists a.0.items
core _ = tt

built : (y : Value-F Such) → IsUntyped (tree_of (roll-Value (map-Value Such Value plain y)))
built y = subst IsUntyped (sym (fold-roll-Value Tree tree_step (map-Value Such Value plain y))) (core y)

pub tree_of-untyped : (v : Value) → IsUntyped (tree_of v)
tree_of-untyped = ind-Value (λ v. IsUntyped (tree_of v)) (λ x y is. subst (λ z. IsUntyped (tree_of (roll-Value z))) is (built y))

-- The root of a value's tree is not transparent.
opaque_root : (t : Tree) → IsUntyped t → is_transparent t ≡ false
opaque_root (scalar s) u = refl
opaque_root (list ts) u = refl
opaque_root (array ts) u = refl
opaque_root (tree.map ps) u = refl
opaque_root (described d t) u = refl
opaque_root (variant n t) u = refl
opaque_root (lazy bs) u = refl
opaque_root (transparent ts) u = absurd u

pub never_transparent : (v : Value) → is_transparent (tree_of v) ≡ false
never_transparent v = opaque_root (tree_of v) (tree_of-untyped v)

mutual
  as_map-untyped : (t : Tree) → IsUntyped t → read_as_map t ≡ t
  as_map-untyped (scalar s) u = refl
  as_map-untyped (list ts) u = ap list (each_as_map-untyped ts u)
  as_map-untyped (array ts) u = ap array (each_as_map-untyped ts u)
  as_map-untyped (tree.map ps) u = ap tree.map (pairs_as_map-untyped ps u)
  as_map-untyped (described d t) u = ap (described d) (as_map-untyped t u)
  as_map-untyped (variant n t) u = absurd u
  as_map-untyped (lazy bs) u = absurd u
  as_map-untyped (transparent ts) u = absurd u

  each_as_map-untyped : (ts : Trees) → AreUntyped ts → each_as_map ts ≡ ts
  each_as_map-untyped no_trees u = refl
  each_as_map-untyped (more t ts) u = λ i. more (as_map-untyped t u.0 i) (each_as_map-untyped ts u.1 i)

  pairs_as_map-untyped : (ps : Pairs) → HasUntypedPairs ps → pairs_as_map ps ≡ ps
  pairs_as_map-untyped no_pairs u = refl
  pairs_as_map-untyped (pair k v ps) u = λ i. pair (as_map-untyped k u.0 i) (as_map-untyped v u.1 i) (pairs_as_map-untyped ps u.2 i)

own_image : (t : Tree) → IsUntyped t → IsPlain t → image t ≡ t
own_image t u h = image-plain t h ∙ as_map-untyped t u

lacks_images : (k : Tree) (ps : Pairs) → image k ≡ k → HasUntypedPairs ps → HasPlainPairs ps → LacksKey k ps → LacksImage (image k) ps
lacks_images k no_pairs is u h lacks = tt
lacks_images k (pair l w ps) is u h lacks =
    ((λ i. same_tree (own_image l u.0 h.0 i) (is i)) ∙ other_way k l lacks.0, lacks_images k ps is u.2 h.3 lacks.1)

lacks_keys : (k : Tree) (ps : Pairs) → image k ≡ k → HasUntypedPairs ps → HasPlainPairs ps → LacksImage (image k) ps → LacksKey k ps
lacks_keys k no_pairs is u h lacks = tt
lacks_keys k (pair l w ps) is u h lacks =
    (other_way l k (sym (λ i. same_tree (own_image l u.0 h.0 i) (is i)) ∙ lacks.0), lacks_keys k ps is u.2 h.3 lacks.1)

mutual
  plain_if_distinct : (t : Tree) → IsUntyped t → HasDistinctKeys t → IsPlain t
  plain_if_distinct (scalar s) u h = tt
  plain_if_distinct (list ts) u h = all_plain ts u h
  plain_if_distinct (array ts) u h = all_plain ts u h
  plain_if_distinct (tree.map ps) u h = pairs_plain ps u h
  plain_if_distinct (described d t) u h = plain_if_distinct t u h
  plain_if_distinct (variant n t) u h = absurd u
  plain_if_distinct (lazy bs) u h = absurd u
  plain_if_distinct (transparent ts) u h = absurd u

  all_plain : (ts : Trees) → AreUntyped ts → HaveDistinctKeys ts → ArePlain ts
  all_plain no_trees u h = tt
  all_plain (more t ts) u h = (plain_if_distinct t u.0 h.0, all_plain ts u.1 h.1)

  pairs_plain : (ps : Pairs) → HasUntypedPairs ps → AreDistinctPairs ps → HasPlainPairs ps
  pairs_plain no_pairs u h = tt
  pairs_plain (pair k v ps) u h =
      let key = plain_if_distinct k u.0 h.1 in
      let rest = pairs_plain ps u.2 h.3 in
      (key, plain_if_distinct v u.1 h.2, lacks_images k ps (own_image k u.0 key) u.2 rest h.0, rest)

mutual
  distinct_if_plain : (t : Tree) → IsUntyped t → IsPlain t → HasDistinctKeys t
  distinct_if_plain (scalar s) u h = tt
  distinct_if_plain (list ts) u h = all_distinct ts u h
  distinct_if_plain (array ts) u h = all_distinct ts u h
  distinct_if_plain (tree.map ps) u h = pairs_distinct ps u h
  distinct_if_plain (described d t) u h = distinct_if_plain t u h
  distinct_if_plain (variant n t) u h = absurd u
  distinct_if_plain (lazy bs) u h = absurd u
  distinct_if_plain (transparent ts) u h = absurd u

  all_distinct : (ts : Trees) → AreUntyped ts → ArePlain ts → HaveDistinctKeys ts
  all_distinct no_trees u h = tt
  all_distinct (more t ts) u h = (distinct_if_plain t u.0 h.0, all_distinct ts u.1 h.1)

  pairs_distinct : (ps : Pairs) → HasUntypedPairs ps → HasPlainPairs ps → AreDistinctPairs ps
  pairs_distinct no_pairs u h = tt
  pairs_distinct (pair k v ps) u h =
      (lacks_keys k ps (own_image k u.0 h.0) u.2 h.3 h.2, distinct_if_plain k u.0 h.0, distinct_if_plain v u.1 h.1, pairs_distinct ps u.2 h.3)

-- A sound value is plain, and a plain value is sound.
pub sound-plain : (v : Value) → IsSound v → IsPlain (tree_of v)
sound-plain v = plain_if_distinct (tree_of v) (tree_of-untyped v)

pub plain-sound : (v : Value) → IsPlain (tree_of v) → IsSound v
plain-sound v = distinct_if_plain (tree_of v) (tree_of-untyped v)

-- A sound value is its own image.
pub image-sound : (v : Value) → IsSound v → image (tree_of v) ≡ tree_of v
image-sound v h = own_image (tree_of v) (tree_of-untyped v) (sound-plain v h)

-- A value whose tree is an image is sound.
pub sound-image : (t : Tree) (v : Value) → tree_of v ≡ image t → IsSound v
sound-image t v is = subst HasDistinctKeys (sym is) (image-distinct t)

-- The trees of sound values and of sound entries have distinct keys.
sound-all : (vs : List Value) → AreSound vs → HaveDistinctKeys (all_of vs)
sound-all [] h = tt
sound-all (v ∷ vs) h = (h.0, sound-all vs h.1)

lacks_key : (k : Value) (es : List (Value × Value)) → pairs.LacksKey equal k (keys_of es) → LacksKey (tree_of k) (pairs_trees es)
lacks_key k [] h = tt
lacks_key k (e ∷ es) h = (sym (equal-is_same k e.0) ∙ h.0, lacks_key k es h.1)

pub sound-entries : (es : List (Value × Value)) → AreDistinct equal (keys_of es) → HaveSoundParts es → AreSoundEntries es
sound-entries [] d h = tt
sound-entries (e ∷ es) d h = (lacks_key e.0 es d.0, h.0, h.1, sound-entries es d.1 h.2)

pub sound-inserted : (es : List (Value × Value)) (k v : Value) → AreSoundEntries es → IsSound k → IsSound v → AreSoundEntries (insert_pair equal es k v)
sound-inserted es k v h hk hv =
    subst AreDistinctPairs (sym (pairs_trees-insert es k v)) (distinct_inserted (tree_of k) (tree_of v) (pairs_trees es) h hk hv)

-- Each kind of value is sound if its contents are.
pub sound-scalar : (v : Value) (s : tree.Scalar) → tree_of v ≡ scalar s → IsSound v
sound-scalar v s is = subst HasDistinctKeys (sym is) tt

pub sound-described : (b : Box (Described Value) Global) → IsSound b.value.value → IsSound (DescribedValue b)
sound-described b h = subst HasDistinctKeys (sym (tree_of-Described b)) h

pub sound-list : (v : Vec Value Global) → AreSound v.items → IsSound (ListValue v)
sound-list v h = subst HasDistinctKeys (sym (tree_of-List v)) (sound-all v.items h)

pub sound-map : (m : OrderedMap Value Value) → AreSoundEntries (entries_of m) → IsSound (MapValue m)
sound-map m h = subst HasDistinctKeys (sym (tree_of-Map m)) h

pub sound-array : (a : Array Value) → AreSound (array_items a) → IsSound (ArrayValue a)
sound-array a h = subst HasDistinctKeys (sym (tree_of-Array a)) (sound-all (array_items a) h)
