-- The elements of an array have one code.
use Rattle.std.proofs.Common.{◌≡◌, ℕ, Bool, true, false, true≢false, ◌&&◌, nat_eq, Option, Some, None, is_some, refl, sym, ap, arith}
use Rattle.std.proofs.lemmas.Bool.{and_parts}
use Rattle.amqp_ser.specs.Tree.{Tree, Trees, scalar, list, array, map, described, variant, lazy, transparent, no_trees, more}
use Rattle.amqp_ser.specs.Encoding.{constructor, code_list}
use Rattle.amqp_ser.specs.Writable.{same_constructor, each_constructor, one_constructor, within_limits, uniform_arrays, uniform_arrays_each, placed, writable}
use Rattle.amqp_value.specs.Image.{image}
use Rattle.amqp_value.specs.FormatCode.{code_or_zero, AllHaveCode, HasOneCode}
use Rattle.amqp_value.proofs.SameLemmas.{numbers}

-- If a tree has a constructor, its image has the same one.
constructor-image : (t : Tree) (c : ℕ) → constructor t ≡ Some c → constructor (image t) ≡ Some c
constructor-image (scalar s) c h = h
constructor-image (list ts) c h = h
constructor-image (array ts) c h = h
constructor-image (map ps) c h = h
constructor-image (described d t) c h = h
constructor-image (variant n t) c h = h
constructor-image (lazy bs) c h = h
constructor-image (transparent ts) c h = absurd (true≢false (sym (ap is_some h)))

-- A constructor that is the same as `c` is `c`.
pub same-is : (c : ℕ) (d : Option ℕ) → same_constructor (Some c) d ≡ true → d ≡ Some c
same-is c None h = absurd (true≢false (sym h))
same-is c (Some d) h = ap Some (sym (numbers c d h))

each-code : (c : ℕ) (ts : Trees) → each_constructor (Some c) ts ≡ true → AllHaveCode c ts
each-code c no_trees h = tt
each-code c (more t ts) h =
    let s = and_parts (same_constructor (Some c) (constructor t)) (each_constructor (Some c) ts) h in
    let is = same-is c (constructor t) s.0 in
    (ap code_or_zero is, ap code_or_zero (constructor-image t c is), each-code c ts s.1)

by_con : (o : Option ℕ) (t : Tree) (ts : Trees) → constructor t ≡ o → each_constructor o (more t ts) ≡ true → HasOneCode (more t ts)
by_con None t ts is h = absurd (true≢false (sym (and_parts (same_constructor None (constructor t)) (each_constructor None ts) h).0))
by_con (Some c) t ts is h = (c, ap code_list is, each-code c (more t ts) h)

-- The elements of a non-empty writable array have one code.
pub array-code : (t : Tree) (ts : Trees) → writable (array (more t ts)) ≡ true → HasOneCode (more t ts)
array-code t ts h =
    let a = array (more t ts) in
    let w = and_parts (within_limits a) (uniform_arrays a && placed a) h in
    let l = and_parts (uniform_arrays a) (placed a) w.1 in
    by_con (constructor t) t ts refl (and_parts (one_constructor (more t ts)) (uniform_arrays_each (more t ts)) l.0).0
