-- The concatenated encodings of trees are split into their encoded values.
use Rattle.std.proofs.Common.{◌≡◌, ℕ, true, false, ◌&&◌, List, [], ◌∷◌, ◌++◌, map as mapped, refl, sym, ap, subst}
use Rattle.std.proofs.lemmas.List.{append-nil}
use Rattle.std.proofs.lemmas.List.Folds.{concat-append}
use Rattle.std.specs.List.{AllByRecursion, concat}
use Rattle.amqp_frame.specs.Cut.{IsCut}
use Rattle.amqp_frame.specs.EncodedValue.{IsEncodedValue}
use Rattle.amqp_frame.proofs.Cuts.{cut-back}
use Rattle.amqp_ser.specs.Tree.{Tree, Trees, scalar, list, array, map, described, variant, lazy, transparent, no_trees, more, trees_of, is_transparent}
use Rattle.amqp_ser.specs.Ranged.{IsRanged, AreRanged}
use Rattle.amqp_ser.specs.Encoding.{encoding, encoding_each}
use Rattle.amqp_ser.specs.Writable.{within_limits, within_limits_each, uniform_arrays, uniform_arrays_each, placed, placed_each, writable}
use Rattle.amqp_ser.proofs.Bools.{left_true, right_true}
use Rattle.amqp_ser.proofs.EncodedValue.{inside_is_encoded, inside_placed, encoding_is_encoded}

-- The premise of `written_cut` for each tree.
abbrev IsWritten : Tree → Type 0
IsWritten t = IsRanged t × (writable t ≡ true) × (is_transparent t ≡ false)

written_are_encoded : (ts : List Tree) → AllByRecursion IsWritten ts → AllByRecursion IsEncodedValue (mapped encoding ts)
written_are_encoded [] h = tt
written_are_encoded (t ∷ ts) h = (encoding_is_encoded t h.0.0 h.0.1 h.0.2, written_are_encoded ts h.1)

pub written_cut : (ts : List Tree) → AllByRecursion IsWritten ts → IsCut (concat (mapped encoding ts)) (mapped encoding ts) []
written_cut ts h = cut-back (mapped encoding ts) (written_are_encoded ts h)

each_is_encoded : (ts : List Tree) → AreRanged (trees_of ts) → within_limits_each (trees_of ts) ≡ true → placed_each (trees_of ts) ≡ true → AllByRecursion (λ t. is_transparent t ≡ false) ts → AllByRecursion IsEncodedValue (mapped encoding ts)
each_is_encoded [] r h p n = tt
each_is_encoded (t ∷ ts) r h p n = (
  inside_is_encoded t r.0 (left_true _ _ h) (inside_placed t (left_true _ _ p) n.0),
  each_is_encoded ts r.1 (right_true (within_limits t) _ h) (right_true (placed t) _ p) n.1,
)

joined_bytes : (ts : List Tree) → encoding_each (trees_of ts) ≡ concat (mapped encoding ts)
joined_bytes [] = refl
joined_bytes (t ∷ ts) = ap (λ bs. encoding t ++ bs) (joined_bytes ts)

pub transparent_cut : (ts : List Tree) → IsRanged (transparent (trees_of ts)) → writable (transparent (trees_of ts)) ≡ true → AllByRecursion (λ t. is_transparent t ≡ false) ts → IsCut (encoding (transparent (trees_of ts))) (mapped encoding ts) []
transparent_cut ts r h n =
    let us = trees_of ts in
    let limits = left_true (within_limits (transparent us)) _ h in
    let each = right_true _ (within_limits_each us) limits in
    let rest = right_true (within_limits (transparent us)) (uniform_arrays_each us && placed_each us) h in
    let encoded_values = each_is_encoded ts r each (right_true (uniform_arrays_each us) (placed_each us) rest) n in
    subst (λ bs. IsCut bs (mapped encoding ts) []) (sym (joined_bytes ts)) (cut-back (mapped encoding ts) encoded_values)

-- The bytes are concatenated encoded values.
abbrev AreEncodedValues : List ℕ → Type 0
AreEncodedValues bs = (values : List (List ℕ)) × AllByRecursion IsEncodedValue values × (bs ≡ concat values)

one_value : (bs : List ℕ) → IsEncodedValue bs → AreEncodedValues bs
one_value bs f = (bs ∷ [], (f, tt), sym (append-nil bs))

all_append : (vs ws : List (List ℕ)) → AllByRecursion IsEncodedValue vs → AllByRecursion IsEncodedValue ws → AllByRecursion IsEncodedValue (vs ++ ws)
all_append [] ws f g = g
all_append (v ∷ vs) ws f g = (f.0, all_append vs ws f.1 g)

encoded_append : (xs ys : List ℕ) → AreEncodedValues xs → AreEncodedValues ys → AreEncodedValues (xs ++ ys)
encoded_append xs ys (vs, f, e) (ws, g, h) = (vs ++ ws, all_append vs ws f g, rw (e, h) (sym (concat-append vs ws)))

placed_inside : (t : Tree) → IsRanged t → within_limits t ≡ true → placed t ≡ true → is_transparent t ≡ false → AreEncodedValues (encoding t)
placed_inside t r h p n = one_value (encoding t) (inside_is_encoded t r h (inside_placed t p n))

mutual
  tree_values : (t : Tree) → IsRanged t → within_limits t ≡ true → placed t ≡ true → AreEncodedValues (encoding t)
  tree_values (transparent ts) r h p = each_are_encoded ts r (right_true _ (within_limits_each ts) h) p
  tree_values (scalar s) r h p = placed_inside (scalar s) r h p refl
  tree_values (list ts) r h p = placed_inside (list ts) r h p refl
  tree_values (array ts) r h p = placed_inside (array ts) r h p refl
  tree_values (map ps) r h p = placed_inside (map ps) r h p refl
  tree_values (described d t) r h p = placed_inside (described d t) r h p refl
  tree_values (variant i t) r h p = placed_inside (variant i t) r h p refl
  tree_values (lazy bs) r h p = placed_inside (lazy bs) r h p refl

  each_are_encoded : (ts : Trees) → AreRanged ts → within_limits_each ts ≡ true → placed_each ts ≡ true → AreEncodedValues (encoding_each ts)
  each_are_encoded no_trees r h p = ([], tt, refl)
  each_are_encoded (more t ts) r h p =
      encoded_append (encoding t) (encoding_each ts) (tree_values t r.0 (left_true _ _ h) (left_true _ _ p))
      (each_are_encoded ts r.1 (right_true (within_limits t) _ h) (right_true (placed t) _ p))

pub tree_cut : (t : Tree) → IsRanged t → writable t ≡ true → (values : List (List ℕ)) × IsCut (encoding t) values []
tree_cut t r h =
    let rest = right_true (within_limits t) (uniform_arrays t && placed t) h in
    let found = tree_values t r (left_true _ _ h) (right_true (uniform_arrays t) (placed t) rest) in
    (found.0, subst (λ bs. IsCut bs found.0 []) (sym found.2) (cut-back found.0 found.1))
