-- The trees that can be written: within the limits, with one constructor for all elements of an
-- array, and with transparent trees only at the root or directly inside one there.
use Rattle.std.specs.Prelude.{ℕ, ◌++◌, Option, Some, None, Bool, true, false, ◌&&◌, nat_eq, length}
use Rattle.amqp_ser.specs.Tree.{Scalar, binary, string, symbol, uint, Descriptor, name, code, Tree, Trees, Pairs, scalar, list, array, map, described, variant, lazy, transparent, no_trees, more, no_pairs, pair, count}
use Rattle.amqp_ser.specs.Limits.{fits, is_count, is_length}
use Rattle.amqp_ser.specs.Scalars.{scalar_form}
use Rattle.amqp_ser.specs.Encoding.{encoding, encoding_each, encoding_pairs, payload_each, array_constructor, constructor}

-- The length of a text or a binary is within the limit.
abbrev pub scalar_fits : Scalar → Bool
scalar_fits (binary bs) = fits (length bs)
scalar_fits (string bs) = fits (length bs)
scalar_fits (symbol bs) = fits (length bs)
scalar_fits s = true

abbrev pub descriptor_fits : Descriptor → Bool
descriptor_fits (name bs) = fits (length bs)
descriptor_fits (code n) = true

-- Every text, body, content and count is within its limit, and so is the length of the encoding.
abbrev mutual
  pub within_limits : Tree → Bool
  within_limits (scalar s) = scalar_fits s
  within_limits (list ts) = fits (length (encoding_each ts)) && within_limits_each ts
  within_limits (array ts) = fits (length (array_constructor ts ++ payload_each ts)) && (is_count (count ts) && within_limits_each ts)
  within_limits (map ps) = fits (length (encoding_pairs ps)) && within_limits_pairs ps
  within_limits (described d t) = is_length (length (encoding (described d t))) && (descriptor_fits d && within_limits t)
  within_limits (variant i t) = fits (length (scalar_form (uint i) ++ encoding t)) && within_limits t
  within_limits (lazy bs) = is_length (length bs)
  within_limits (transparent ts) = is_length (length (encoding_each ts)) && within_limits_each ts

  pub within_limits_each : Trees → Bool
  within_limits_each no_trees = true
  within_limits_each (more t ts) = within_limits t && within_limits_each ts

  pub within_limits_pairs : Pairs → Bool
  within_limits_pairs no_pairs = true
  within_limits_pairs (pair k v ps) = within_limits k && (within_limits v && within_limits_pairs ps)

-- Both trees have a constructor, and it is the same.
abbrev pub same_constructor : Option ℕ → Option ℕ → Bool
same_constructor None d = false
same_constructor (Some c) None = false
same_constructor (Some c) (Some d) = nat_eq c d

abbrev pub each_constructor : Option ℕ → Trees → Bool
each_constructor c no_trees = true
each_constructor c (more t ts) = same_constructor c (constructor t) && each_constructor c ts

-- All trees have the same constructor.
abbrev pub one_constructor : Trees → Bool
one_constructor no_trees = true
one_constructor (more t ts) = each_constructor (constructor t) (more t ts)

-- The elements of each array, at every depth, have the same constructor.
abbrev mutual
  pub uniform_arrays : Tree → Bool
  uniform_arrays (scalar s) = true
  uniform_arrays (list ts) = uniform_arrays_each ts
  uniform_arrays (array ts) = one_constructor ts && uniform_arrays_each ts
  uniform_arrays (map ps) = uniform_arrays_pairs ps
  uniform_arrays (described d t) = uniform_arrays t
  uniform_arrays (variant i t) = uniform_arrays t
  uniform_arrays (lazy bs) = true
  uniform_arrays (transparent ts) = uniform_arrays_each ts

  pub uniform_arrays_each : Trees → Bool
  uniform_arrays_each no_trees = true
  uniform_arrays_each (more t ts) = uniform_arrays t && uniform_arrays_each ts

  pub uniform_arrays_pairs : Pairs → Bool
  uniform_arrays_pairs no_pairs = true
  uniform_arrays_pairs (pair k v ps) = uniform_arrays k && (uniform_arrays v && uniform_arrays_pairs ps)

-- There is no transparent tree at any depth.
abbrev mutual
  pub inside : Tree → Bool
  inside (scalar s) = true
  inside (list ts) = inside_each ts
  inside (array ts) = inside_each ts
  inside (map ps) = inside_pairs ps
  inside (described d t) = inside t
  inside (variant i t) = inside t
  inside (lazy bs) = true
  inside (transparent ts) = false

  pub inside_each : Trees → Bool
  inside_each no_trees = true
  inside_each (more t ts) = inside t && inside_each ts

  pub inside_pairs : Pairs → Bool
  inside_pairs no_pairs = true
  inside_pairs (pair k v ps) = inside k && (inside v && inside_pairs ps)

-- Transparent trees are only at the root or directly inside one there.
abbrev mutual
  pub placed : Tree → Bool
  placed (transparent ts) = placed_each ts
  placed (scalar s) = true
  placed (list ts) = inside_each ts
  placed (array ts) = inside_each ts
  placed (map ps) = inside_pairs ps
  placed (described d t) = inside t
  placed (variant i t) = inside t
  placed (lazy bs) = true

  pub placed_each : Trees → Bool
  placed_each no_trees = true
  placed_each (more t ts) = placed t && placed_each ts

-- The tree can be written.
abbrev pub writable : Tree → Bool
writable t = within_limits t && (uniform_arrays t && placed t)
