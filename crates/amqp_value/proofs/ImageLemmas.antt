-- The image of a plain tree is the tree with each variant replaced by its map.
use Rattle.std.proofs.Common.{◌≡◌, false, refl, sym, ap, ◌∙◌}
use Rattle.amqp_ser.specs.Tree.{Tree, Trees, Pairs, scalar, list, array, map, described, variant, lazy, transparent, no_trees, more, no_pairs, pair}
use Rattle.amqp_ser.specs.Same.{same_tree}
use Rattle.amqp_ser.proofs.Joins.{join}
use Rattle.amqp_value.specs.Image.{variant_map, image, images, images_onto, insert_tree}
use Rattle.amqp_value.specs.Plain.{IsPlain, ArePlain, HasPlainPairs, LacksImage}
use Rattle.amqp_value.specs.AsMap.{read_as_map, each_as_map, pairs_as_map}

-- The pairs, followed by the other pairs.
abbrev pub joined : Pairs → Pairs → Pairs
joined no_pairs qs = qs
joined (pair k v ps) qs = pair k v (joined ps qs)

pub joined_assoc : (ps qs rs : Pairs) → joined (joined ps qs) rs ≡ joined ps (joined qs rs)
joined_assoc no_pairs qs rs = refl
joined_assoc (pair k v ps) qs rs = ap (pair k v) (joined_assoc ps qs rs)

pub joined_none : (ps : Pairs) → joined ps no_pairs ≡ ps
joined_none no_pairs = refl
joined_none (pair k v ps) = ap (pair k v) (joined_none ps)

-- Images of trees followed by other trees, and of pairs followed by other pairs.
pub images-join : (ts us : Trees) → images (join ts us) ≡ join (images ts) (images us)
images-join no_trees us = refl
images-join (more t ts) us = ap (more (image t)) (images-join ts us)

pub images_onto-joined : (ps qs done : Pairs) → images_onto (joined ps qs) done ≡ images_onto qs (images_onto ps done)
images_onto-joined no_pairs qs done = refl
images_onto-joined (pair k v ps) qs done = images_onto-joined ps qs (insert_tree done (image k) (image v))

-- No key of the pairs is this key.
abbrev pub Lacks : Pairs → Tree → Type 0
Lacks no_pairs k = Unit {0}
Lacks (pair l w ps) k = (same_tree k l ≡ false) × Lacks ps k

-- No key of `done` is the image of a key of the other pairs.
abbrev Apart : Pairs → Pairs → Type 0
Apart done no_pairs = Unit {0}
Apart done (pair k v ps) = Lacks done (image k) × Apart done ps

-- A new key is appended.
pub insert_tree-new : (done : Pairs) (k v : Tree) → Lacks done k → insert_tree done k v ≡ joined done (pair k v no_pairs)
insert_tree-new no_pairs k v h = refl
insert_tree-new (pair l w ps) k v h = rw h.0 (ap (pair l w) (insert_tree-new ps k v h.1))

lacks_joined : (done : Pairs) (k v l : Tree) → Lacks done l → same_tree l k ≡ false → Lacks (joined done (pair k v no_pairs)) l
lacks_joined no_pairs k v l h e = (e, tt)
lacks_joined (pair m w ps) k v l h e = (h.0, lacks_joined ps k v l h.1 e)

apart_joined : (done : Pairs) (k v : Tree) (ps : Pairs) → Apart done ps → LacksImage k ps → Apart (joined done (pair k v no_pairs)) ps
apart_joined done k v no_pairs h l = tt
apart_joined done k v (pair m w ps) h l = (lacks_joined done k v (image m) h.0 l.0, apart_joined done k v ps h.1 l.1)

apart_nothing : (ps : Pairs) → Apart no_pairs ps
apart_nothing no_pairs = tt
apart_nothing (pair k v ps) = (tt, apart_nothing ps)

mutual
  pub image-plain : (t : Tree) → IsPlain t → image t ≡ read_as_map t
  image-plain (scalar s) h = refl
  image-plain (list ts) h = ap list (images-plain ts h)
  image-plain (array ts) h = ap array (images-plain ts h)
  image-plain (map ps) h = ap map (images_onto-plain ps no_pairs h (apart_nothing ps))
  image-plain (described d t) h = ap (described d) (image-plain t h)
  image-plain (variant n t) h = ap (variant_map n) (image-plain t h)
  image-plain (lazy bs) h = refl
  image-plain (transparent ts) h = absurd h

  pub images-plain : (ts : Trees) → ArePlain ts → images ts ≡ each_as_map ts
  images-plain no_trees h = refl
  images-plain (more t ts) h = λ i. more (image-plain t h.0 i) (images-plain ts h.1 i)

  -- Keys with distinct images are all appended.
  pub images_onto-plain : (ps done : Pairs) → HasPlainPairs ps → Apart done ps → images_onto ps done ≡ joined done (pairs_as_map ps)
  images_onto-plain no_pairs done h a = sym (joined_none done)
  images_onto-plain (pair k v ps) done h a =
      ap (images_onto ps) (insert_tree-new done (image k) (image v) a.0)
      ∙ images_onto-plain ps (joined done (pair (image k) (image v) no_pairs)) h.3 (apart_joined done (image k) (image v) ps a.1 h.2)
      ∙ joined_assoc done (pair (image k) (image v) no_pairs) (pairs_as_map ps)
      ∙ (λ i. joined done (pair (image-plain k h.0 i) (image-plain v h.1 i) (pairs_as_map ps)))
