-- A tree whose variants are replaced by maps has the same encoding and constructor, and is writable
-- if and only if the original is.
use Rattle.std.proofs.Common.{◌≡◌, ℕ, ◌*◌, ◌+◌, Option, Bool, true, false, ◌&&◌, ◌∷◌, ◌++◌, length, refl, ap, ◌∙◌, append-nil}
use Rattle.amqp_ser.specs.Tree.{uint, Tree, Trees, Pairs, scalar, list, array, map, described, variant, lazy, transparent, no_trees, more, no_pairs, pair, count, pair_count}
use Rattle.amqp_ser.specs.Limits.{fits, is_count, is_length}
use Rattle.amqp_ser.specs.Scalars.{scalar_form}
use Rattle.amqp_ser.specs.Encoding.{encoding, encoding_each, encoding_pairs, payload, payload_each, constructor, array_constructor, code_list, wide, list_form, map_form, array_form, descriptor_form}
use Rattle.amqp_ser.specs.Writable.{within_limits, within_limits_each, within_limits_pairs, descriptor_fits, same_constructor, each_constructor, one_constructor, uniform_arrays, uniform_arrays_each, uniform_arrays_pairs, inside, inside_each, inside_pairs, placed, placed_each, writable}
use Rattle.amqp_value.specs.AsMap.{read_as_map, each_as_map, pairs_as_map}

and_true : (b : Bool) → (b && true) ≡ b
and_true true = refl
and_true false = refl

pub count-as_map : (ts : Trees) → count (each_as_map ts) ≡ count ts
count-as_map no_trees = refl
count-as_map (more t ts) = ap (λ n. n + 1) (count-as_map ts)

pub pair_count-as_map : (ps : Pairs) → pair_count (pairs_as_map ps) ≡ pair_count ps
pair_count-as_map no_pairs = refl
pair_count-as_map (pair k v ps) = ap (λ n. n + 1) (pair_count-as_map ps)

-- The constructors are equal.
pub constructor-as_map : (t : Tree) → constructor (read_as_map t) ≡ constructor t
constructor-as_map (scalar s) = refl
constructor-as_map (list ts) = refl
constructor-as_map (array ts) = refl
constructor-as_map (map ps) = refl
constructor-as_map (described d t) = refl
constructor-as_map (variant n t) = refl
constructor-as_map (lazy bs) = refl
constructor-as_map (transparent ts) = refl

pub array_constructor-as_map : (ts : Trees) → array_constructor (each_as_map ts) ≡ array_constructor ts
array_constructor-as_map no_trees = refl
array_constructor-as_map (more t ts) = ap code_list (constructor-as_map t)

mutual
  -- The encodings are equal.
  pub encoding-as_map : (t : Tree) → encoding (read_as_map t) ≡ encoding t
  encoding-as_map (scalar s) = refl
  encoding-as_map (list ts) = λ i. list_form (count-as_map ts i) (encoding_each-as_map ts i)
  encoding-as_map (array ts) = λ i. array_form (count-as_map ts i) (array_constructor-as_map ts i ++ payload_each-as_map ts i)
  encoding-as_map (map ps) = λ i. map_form (pair_count-as_map ps i * 2) (encoding_pairs-as_map ps i)
  encoding-as_map (described d t) = ap (λ bs. 0x00 ∷ (descriptor_form d ++ bs)) (encoding-as_map t)
  encoding-as_map (variant n t) = ap (λ bs. map_form 2 (scalar_form (uint n) ++ bs)) (append-nil (encoding (read_as_map t)) ∙ encoding-as_map t)
  encoding-as_map (lazy bs) = refl
  encoding-as_map (transparent ts) = encoding_each-as_map ts

  -- The payloads after an array's constructor are equal.
  pub payload-as_map : (t : Tree) → payload (read_as_map t) ≡ payload t
  payload-as_map (scalar s) = refl
  payload-as_map (list ts) = λ i. wide (count-as_map ts i) (encoding_each-as_map ts i)
  payload-as_map (array ts) = λ i. wide (count-as_map ts i) (array_constructor-as_map ts i ++ payload_each-as_map ts i)
  payload-as_map (map ps) = λ i. wide (pair_count-as_map ps i * 2) (encoding_pairs-as_map ps i)
  payload-as_map (described d t) = refl
  payload-as_map (variant n t) = ap (λ bs. wide 2 (scalar_form (uint n) ++ bs)) (append-nil (encoding (read_as_map t)) ∙ encoding-as_map t)
  payload-as_map (lazy bs) = refl
  payload-as_map (transparent ts) = refl

  pub encoding_each-as_map : (ts : Trees) → encoding_each (each_as_map ts) ≡ encoding_each ts
  encoding_each-as_map no_trees = refl
  encoding_each-as_map (more t ts) = λ i. encoding-as_map t i ++ encoding_each-as_map ts i

  pub payload_each-as_map : (ts : Trees) → payload_each (each_as_map ts) ≡ payload_each ts
  payload_each-as_map no_trees = refl
  payload_each-as_map (more t ts) = λ i. payload-as_map t i ++ payload_each-as_map ts i

  pub encoding_pairs-as_map : (ps : Pairs) → encoding_pairs (pairs_as_map ps) ≡ encoding_pairs ps
  encoding_pairs-as_map no_pairs = refl
  encoding_pairs-as_map (pair k v ps) = λ i. encoding-as_map k i ++ (encoding-as_map v i ++ encoding_pairs-as_map ps i)

mutual
  -- One tree is within the limits if and only if the other is.
  pub within_limits-as_map : (t : Tree) → within_limits (read_as_map t) ≡ within_limits t
  within_limits-as_map (scalar s) = refl
  within_limits-as_map (list ts) = λ i. fits (length (encoding_each-as_map ts i)) && within_limits_each-as_map ts i
  within_limits-as_map (array ts) = λ i.
      fits (length (array_constructor-as_map ts i ++ payload_each-as_map ts i)) && (is_count (count-as_map ts i) && within_limits_each-as_map ts i)
  within_limits-as_map (map ps) = λ i. fits (length (encoding_pairs-as_map ps i)) && within_limits_pairs-as_map ps i
  within_limits-as_map (described d t) = λ i. is_length (length (encoding-as_map (described d t) i)) && (descriptor_fits d && within_limits-as_map t i)
  within_limits-as_map (variant n t) =
      let bytes = append-nil (encoding (read_as_map t)) ∙ encoding-as_map t in
      let limits = and_true (within_limits (read_as_map t)) ∙ within_limits-as_map t in
      λ i. fits (length (scalar_form (uint n) ++ bytes i)) && limits i
  within_limits-as_map (lazy bs) = refl
  within_limits-as_map (transparent ts) = λ i. is_length (length (encoding_each-as_map ts i)) && within_limits_each-as_map ts i

  pub within_limits_each-as_map : (ts : Trees) → within_limits_each (each_as_map ts) ≡ within_limits_each ts
  within_limits_each-as_map no_trees = refl
  within_limits_each-as_map (more t ts) = λ i. within_limits-as_map t i && within_limits_each-as_map ts i

  pub within_limits_pairs-as_map : (ps : Pairs) → within_limits_pairs (pairs_as_map ps) ≡ within_limits_pairs ps
  within_limits_pairs-as_map no_pairs = refl
  within_limits_pairs-as_map (pair k v ps) = λ i. within_limits-as_map k i && (within_limits-as_map v i && within_limits_pairs-as_map ps i)

each_constructor-as_map : (c : Option ℕ) (ts : Trees) → each_constructor c (each_as_map ts) ≡ each_constructor c ts
each_constructor-as_map c no_trees = refl
each_constructor-as_map c (more t ts) = λ i. same_constructor c (constructor-as_map t i) && each_constructor-as_map c ts i

one_constructor-as_map : (ts : Trees) → one_constructor (each_as_map ts) ≡ one_constructor ts
one_constructor-as_map no_trees = refl
one_constructor-as_map (more t ts) = each_constructor-as_map (constructor (read_as_map t)) (more t ts) ∙ ap (λ c. each_constructor c (more t ts)) (constructor-as_map t)

mutual
  -- The arrays of one tree have one constructor each if and only if those of the other do.
  pub uniform_arrays-as_map : (t : Tree) → uniform_arrays (read_as_map t) ≡ uniform_arrays t
  uniform_arrays-as_map (scalar s) = refl
  uniform_arrays-as_map (list ts) = uniform_arrays_each-as_map ts
  uniform_arrays-as_map (array ts) = λ i. one_constructor-as_map ts i && uniform_arrays_each-as_map ts i
  uniform_arrays-as_map (map ps) = uniform_arrays_pairs-as_map ps
  uniform_arrays-as_map (described d t) = uniform_arrays-as_map t
  uniform_arrays-as_map (variant n t) = and_true (uniform_arrays (read_as_map t)) ∙ uniform_arrays-as_map t
  uniform_arrays-as_map (lazy bs) = refl
  uniform_arrays-as_map (transparent ts) = uniform_arrays_each-as_map ts

  pub uniform_arrays_each-as_map : (ts : Trees) → uniform_arrays_each (each_as_map ts) ≡ uniform_arrays_each ts
  uniform_arrays_each-as_map no_trees = refl
  uniform_arrays_each-as_map (more t ts) = λ i. uniform_arrays-as_map t i && uniform_arrays_each-as_map ts i

  pub uniform_arrays_pairs-as_map : (ps : Pairs) → uniform_arrays_pairs (pairs_as_map ps) ≡ uniform_arrays_pairs ps
  uniform_arrays_pairs-as_map no_pairs = refl
  uniform_arrays_pairs-as_map (pair k v ps) = λ i. uniform_arrays-as_map k i && (uniform_arrays-as_map v i && uniform_arrays_pairs-as_map ps i)

mutual
  -- Both trees have nothing transparent inside, or neither.
  pub inside-as_map : (t : Tree) → inside (read_as_map t) ≡ inside t
  inside-as_map (scalar s) = refl
  inside-as_map (list ts) = inside_each-as_map ts
  inside-as_map (array ts) = inside_each-as_map ts
  inside-as_map (map ps) = inside_pairs-as_map ps
  inside-as_map (described d t) = inside-as_map t
  inside-as_map (variant n t) = and_true (inside (read_as_map t)) ∙ inside-as_map t
  inside-as_map (lazy bs) = refl
  inside-as_map (transparent ts) = refl

  pub inside_each-as_map : (ts : Trees) → inside_each (each_as_map ts) ≡ inside_each ts
  inside_each-as_map no_trees = refl
  inside_each-as_map (more t ts) = λ i. inside-as_map t i && inside_each-as_map ts i

  pub inside_pairs-as_map : (ps : Pairs) → inside_pairs (pairs_as_map ps) ≡ inside_pairs ps
  inside_pairs-as_map no_pairs = refl
  inside_pairs-as_map (pair k v ps) = λ i. inside-as_map k i && (inside-as_map v i && inside_pairs-as_map ps i)

mutual
  -- One tree has transparent trees only at permitted positions if and only if the other does.
  pub placed-as_map : (t : Tree) → placed (read_as_map t) ≡ placed t
  placed-as_map (transparent ts) = placed_each-as_map ts
  placed-as_map (scalar s) = refl
  placed-as_map (list ts) = inside_each-as_map ts
  placed-as_map (array ts) = inside_each-as_map ts
  placed-as_map (map ps) = inside_pairs-as_map ps
  placed-as_map (described d t) = inside-as_map t
  placed-as_map (variant n t) = and_true (inside (read_as_map t)) ∙ inside-as_map t
  placed-as_map (lazy bs) = refl

  pub placed_each-as_map : (ts : Trees) → placed_each (each_as_map ts) ≡ placed_each ts
  placed_each-as_map no_trees = refl
  placed_each-as_map (more t ts) = λ i. placed-as_map t i && placed_each-as_map ts i

-- One tree is writable if and only if the other is.
pub writable-as_map : (t : Tree) → writable (read_as_map t) ≡ writable t
writable-as_map t = λ i. within_limits-as_map t i && (uniform_arrays-as_map t i && placed-as_map t i)
