-- The trees of concatenated parts.
use Rattle.std.proofs.Common.{◌≡◌, ℕ, ◌+◌, List, [], ◌∷◌, ◌++◌, Option, Some, None, ◌&&◌, refl, ap, sym, ◌∙◌, arith, append_assoc}
use Rattle.amqp_ser.specs.Tree.{Tree, Trees, no_trees, more, count}
use Rattle.amqp_ser.specs.Compounds.{all_trees, prepend, as_kind}
use Rattle.amqp_ser.specs.Ranged.{AreRanged}
use Rattle.amqp_ser.specs.Encoding.{encoding, payload, encoding_each, payload_each, constructor}
use Rattle.amqp_ser.specs.Writable.{same_constructor, each_constructor, uniform_arrays, uniform_arrays_each, within_limits, within_limits_each, inside, inside_each}
use Rattle.amqp_ser.specs.declared.kind.CompoundKind.{CompoundKind}
use Rattle.amqp_ser.specs.declared.kind.CompoundKind.TheVariants as kind
use Rattle.amqp_ser.proofs.Bools.{and_assoc}

abbrev pub join : Trees → Trees → Trees
join no_trees us = us
join (more t ts) us = more t (join ts us)

abbrev pub joined : Option Trees → Option Trees → Option Trees
joined None b = None
joined (Some ts) None = None
joined (Some ts) (Some us) = Some (join ts us)

prepend-joined : (p : Option Tree) (a b : Option Trees) → joined (prepend p a) b ≡ prepend p (joined a b)
prepend-joined None a b = refl
prepend-joined (Some t) None b = refl
prepend-joined (Some t) (Some ts) None = refl
prepend-joined (Some t) (Some ts) (Some us) = refl

joined-none : (b : Option Trees) → joined (Some no_trees) b ≡ b
joined-none None = refl
joined-none (Some us) = refl

pub all_trees-append : (ps qs : List (Option Tree)) → all_trees (ps ++ qs) ≡ joined (all_trees ps) (all_trees qs)
all_trees-append [] qs = sym (joined-none (all_trees qs))
all_trees-append (p ∷ ps) qs = ap (prepend p) (all_trees-append ps qs) ∙ sym (prepend-joined p (all_trees ps) (all_trees qs))

pub encoding_each-join : (ts us : Trees) → encoding_each (join ts us) ≡ encoding_each ts ++ encoding_each us
encoding_each-join no_trees us = refl
encoding_each-join (more t ts) us = ap (λ bs. encoding t ++ bs) (encoding_each-join ts us) ∙ sym (append_assoc (encoding t) (encoding_each ts) (encoding_each us))

pub payload_each-join : (ts us : Trees) → payload_each (join ts us) ≡ payload_each ts ++ payload_each us
payload_each-join no_trees us = refl
payload_each-join (more t ts) us = ap (λ bs. payload t ++ bs) (payload_each-join ts us) ∙ sym (append_assoc (payload t) (payload_each ts) (payload_each us))

pub count-join : (ts us : Trees) → count (join ts us) ≡ count ts + count us
count-join no_trees us = omega arith
count-join (more t ts) us = let ih = count-join ts us in omega arith

pub uniform_arrays-join : (ts us : Trees) → uniform_arrays_each (join ts us) ≡ (uniform_arrays_each ts && uniform_arrays_each us)
uniform_arrays-join no_trees us = refl
uniform_arrays-join (more t ts) us = ap (λ b. uniform_arrays t && b) (uniform_arrays-join ts us) ∙ sym (and_assoc (uniform_arrays t) (uniform_arrays_each ts) (uniform_arrays_each us))

pub within_limits-join : (ts us : Trees) → within_limits_each (join ts us) ≡ (within_limits_each ts && within_limits_each us)
within_limits-join no_trees us = refl
within_limits-join (more t ts) us = ap (λ b. within_limits t && b) (within_limits-join ts us) ∙ sym (and_assoc (within_limits t) (within_limits_each ts) (within_limits_each us))

pub each-join : (c : Option ℕ) (ts us : Trees) → each_constructor c (join ts us) ≡ (each_constructor c ts && each_constructor c us)
each-join c no_trees us = refl
each-join c (more t ts) us = ap (λ b. same_constructor c (constructor t) && b) (each-join c ts us) ∙ sym (and_assoc (same_constructor c (constructor t)) (each_constructor c ts) (each_constructor c us))

pub inside-join : (ts us : Trees) → inside_each (join ts us) ≡ (inside_each ts && inside_each us)
inside-join no_trees us = refl
inside-join (more t ts) us = ap (λ b. inside t && b) (inside-join ts us) ∙ sym (and_assoc (inside t) (inside_each ts) (inside_each us))

-- Trees in range, joined, are in range.
pub ranged-join : (ts us : Trees) → AreRanged ts → AreRanged us → AreRanged (join ts us)
ranged-join no_trees us a b = b
ranged-join (more t ts) us a b = (a.0, ranged-join ts us a.1 b)

-- The first of trees in range are in range.
pub ranged-left : (ts us : Trees) → AreRanged (join ts us) → AreRanged ts
ranged-left no_trees us h = tt
ranged-left (more t ts) us h = (h.0, ranged-left ts us h.1)

pub kind_none : (k : CompoundKind) → as_kind k None ≡ None
kind_none kind.List = refl
kind_none kind.Map = refl
kind_none (kind.Variant i) = refl
kind_none (kind.NewtypeVariant i) = refl
kind_none kind.Single = refl
