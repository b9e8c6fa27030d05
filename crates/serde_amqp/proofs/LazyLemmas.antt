-- Lazy values, decoded again.
use Rattle.std.proofs.Common.{ℕ, ◌≡◌, ◌≤◌, ◌&&◌, true, Some, ◌∙◌}
use Rattle.std.proofs.lemmas.Bool.{and_parts}
use Rattle.amqp_data.specs.declared.error.Error.{Error}
use Rattle.amqp_data.specs.declared.error.Error.TheVariants.{OutOfMemory}
use Rattle.amqp_ser.specs.Encoding.{encoding}
use Rattle.amqp_ser.specs.Ranged.{IsRanged}
use Rattle.amqp_ser.specs.Tree.{Tree, Trees, Pairs, scalar, list, array, map, described, variant, lazy, transparent, no_trees, more, no_pairs, pair}
use Rattle.amqp_ser.specs.Writable.{within_limits, uniform_arrays, placed, writable}
use Rattle.amqp_value.specs.Image.{image}
use Rattle.amqp_value.specs.Plain.{IsPlain, ArePlain, HasPlainPairs}
use Rattle.amqp_value.specs.TreeOf.{tree_of}
use Rattle.amqp_value.specs.declared.value.Value.{Value}
use Rattle.amqp_decode.specs.Depth.{IsOrdinary, AreOrdinary, HasOrdinaryPairs, depth_of}
use Rattle.amqp_decode.specs.Encodes.{Encodes}
use Rattle.amqp_decode.proofs.OwnEncoding.{own-encoding}
use Rattle.amqp_decode.proofs.OwnImage.{encoded-own_image}
use Rattle.amqp_decode.proofs.Whole.{one-tree}
use Rattle.amqp_to_value.specs.ImageOf.{Represents, refuses}
use Rattle.amqp_to_value.proofs.LazyLemmas.{read_refused}

-- The encoding of a tree encodes its image.
pub own-bytes : (t : Tree) → IsRanged t → writable t ≡ true → IsOrdinary t → (d : ℕ) → depth_of t ≤ d → Encodes d (encoding t) (image t)
own-bytes t r w o d le =
    let within_and = and_parts (within_limits t) (uniform_arrays t && placed t) w in
    let alike_and = and_parts (uniform_arrays t) (placed t) within_and.1 in
    own-encoding t (r, within_and.0, alike_and.0, o) d le

pub held-image : (t : Tree) (v : Value) → Encodes 256 (encoding t) (image t) → Represents v (Some (lazy (encoding t))) → tree_of v ≡ image t
held-image t v h s = s.2 ∙ encoded-own_image s.1 ∙ one-tree 256 256 (encoding t) s.0 (image t) s.1 h

pub held-refused : (t : Tree) (e : Error) → Encodes 256 (encoding t) (image t) → refuses e (Some (lazy (encoding t))) → e ≡ OutOfMemory
held-refused t e h r = read_refused e (lazy (encoding t)) (image t) h r

mutual
  -- A plain tree contains no lazy and no transparent tree.
  pub plain-ordinary : (t : Tree) → IsPlain t → IsOrdinary t
  plain-ordinary (scalar s) h = tt
  plain-ordinary (list ts) h = each-ordinary ts h
  plain-ordinary (array ts) h = each-ordinary ts h
  plain-ordinary (map ps) h = pairs-ordinary ps h
  plain-ordinary (described d t) h = plain-ordinary t h
  plain-ordinary (variant i t) h = plain-ordinary t h
  plain-ordinary (lazy bs) h = absurd h
  plain-ordinary (transparent ts) h = absurd h

  each-ordinary : (ts : Trees) → ArePlain ts → AreOrdinary ts
  each-ordinary no_trees h = tt
  each-ordinary (more t ts) h = (plain-ordinary t h.0, each-ordinary ts h.1)

  pairs-ordinary : (ps : Pairs) → HasPlainPairs ps → HasOrdinaryPairs ps
  pairs-ordinary no_pairs h = tt
  pairs-ordinary (pair k v ps) h = (plain-ordinary k h.0, plain-ordinary v h.1, pairs-ordinary ps h.3)
