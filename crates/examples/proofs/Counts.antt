-- The number of nodes of parts and of the compound that they make.
--
-- For readers who implement `Serializer`: the lemmas behind the proofs of `NodeCounter`.
use Rattle.std.proofs.Common.{◌≡◌, ℕ, ◌+◌, ◌^◌, ◌≤◌, inr, List, [], ◌∷◌, ◌++◌, Option, Some, None, Result, Ok, Err, Bool, true, false, is_some, not, refl, ap, sym, ◌∙◌, subst, arith}
use Rattle.amqp_data.specs.declared.error.Error.{Error}
use Rattle.amqp_data.specs.declared.error.Error.TheVariants.{TooLong}
use Rattle.amqp_ser.specs.Tree.{Tree, Trees, Pairs, list, map, variant, no_trees, more}
use Rattle.amqp_ser.specs.Compounds.{all_trees, prepend, prepend_pair, in_pairs, as_kind, as_map, as_variant, only, tree_of_parts, paired, complete}
use Rattle.amqp_ser.specs.declared.kind.CompoundKind.{CompoundKind}
use Rattle.amqp_ser.specs.declared.kind.CompoundKind.TheVariants as kinds
use Rattle.amqp_ser.proofs.Joins.{join, joined, all_trees-append, kind_none}
use Rattle.amqp_ser.proofs.Last.{last_off, paired-last}
use Rattle.amqp_ser.proofs.Meant.{never, makes_tree, complete_meant}
use Rattle.amqp_ser.proofs.Pairing.{even, paired-even, pairing}
use Rattle.amqp_ser.proofs.Unmarked.{unmarked}
use Rattle.examples.specs.Nodes.{nodes, nodes_each, nodes_of_pairs, CountsFrom, CountsParts, Holds, IsRefusal, fresh, own_nodes, for_part}
use Rattle.amqp_ser.specs.Meant.{fits, meant, meant_parts}
use Rattle.examples.proofs.Meanings.{Sums, barred, is_refusal, through}
use Rattle.examples.specs.declared.counter.Counting.{Counting}
use Rattle.examples.specs.declared.counter.NodeCounter.{NodeCounter}

nodes_each-join : (ts us : Trees) → nodes_each (join ts us) ≡ nodes_each ts + nodes_each us
nodes_each-join no_trees us = omega arith
nodes_each-join (more t ts) us = let e = nodes_each-join ts us in omega arith

-- a part among others: the nodes of all are those before it, its own and those after it
record Among (o : Option Trees) (p : Option Tree) (q : Option Trees) (us : Trees) : Type 0 where
  ts : Trees
  t : Tree
  rs : Trees
  first : o ≡ Some ts
  it : p ≡ Some t
  others : q ≡ Some rs
  sum : nodes_each us ≡ nodes_each ts + (nodes t + nodes_each rs)

among : (o : Option Trees) (p : Option Tree) (q : Option Trees) (us : Trees) → joined o (prepend p q) ≡ Some us → Among o p q us
among None p q us e = cc
among (Some ts) None q us e = cc
among (Some ts) (Some t) None us e = cc
among (Some ts) (Some t) (Some rs) us e =
    let same : us ≡ join ts (more t rs) = cc in
    record { ts = ts; t = t; rs = rs; first = refl; it = refl; others = refl; sum = ap nodes_each same ∙ nodes_each-join ts (more t rs) }

among_parts : (ps rest : List (Option Tree)) (p : Option Tree) (us : Trees) → all_trees (ps ++ (p ∷ rest)) ≡ Some us → Among (all_trees ps) p (all_trees rest) us
among_parts ps rest p us e = among (all_trees ps) p (all_trees rest) us (sym (all_trees-append ps (p ∷ rest)) ∙ e)

-- adding the nodes of one more part to a count counts all parts
one_more : (descriptors m n inner : ℕ) (o : Option Trees) (q : Option Tree) → CountsParts descriptors o (m + inner) → CountsFrom inner q (Ok n) → CountsParts descriptors (joined o (prepend q (Some no_trees))) (m + n)
one_more descriptors m n inner None q h g = h
one_more descriptors m n inner (Some ts) None h g = g
one_more descriptors m n inner (Some ts) (Some t) h g = let e = nodes_each-join ts (more t no_trees) in omega arith

at_parts : (descriptors m n : ℕ) (o p : Option Trees) → o ≡ p → m ≡ n → CountsParts descriptors o m → CountsParts descriptors p n
at_parts descriptors m n o p e f h = subst (λ x. CountsParts descriptors x n) e (subst (λ k. CountsParts descriptors o k) f h)

counted_at : (descriptors n : ℕ) (o : Option Trees) (ts : Trees) → CountsParts descriptors o n → o ≡ Some ts → n ≡ nodes_each ts + descriptors
counted_at descriptors n o ts h e = subst (λ x. CountsParts descriptors x n) e h

-- the intended trees of parts are those before a part, that of the part, and the others unchanged
meant_more : (kind : CompoundKind) (start : NodeCounter) (ps rest : List (Option Tree)) (p : Option Tree) →
    meant_parts kind start.pending (ps ++ (p ∷ rest)) ≡ meant_parts kind start.pending ps ++ (meant (for_part kind ps start).pending p ∷ rest)
meant_more kinds.Single start [] rest p = refl
meant_more kinds.Single start (q ∷ ps) rest p = ap (λ x. meant start.pending q ∷ (ps ++ (x ∷ rest))) (sym (unmarked p))
meant_more kind start ps rest p = ap (λ x. ps ++ (x ∷ rest)) (sym (unmarked p))

held_more : (start : NodeCounter) (kind : CompoundKind) (compound : Counting) (ps rest : List (Option Tree)) (p : Option Tree) → Holds start kind compound ps →
    meant_parts kind start.pending (ps ++ (p ∷ rest)) ≡ meant_parts kind start.pending ps ++ (meant compound.next.pending p ∷ rest)
held_more start kind compound ps rest p h =
    meant_more kind start ps rest p ∙ ap (λ (a : NodeCounter). meant_parts kind start.pending ps ++ (meant a.pending p ∷ rest)) (sym h.next)

for_next : (start : NodeCounter) (kind : CompoundKind) (ps : List (Option Tree)) (p : Option Tree) → fresh ≡ for_part kind (ps ++ (p ∷ [])) start
for_next start kinds.Single [] p = refl
for_next start kinds.Single (q ∷ ps) p = refl
for_next start kind ps p = refl

-- markers leave the parts of a map unchanged, so `count` counts them
map_count : (start : NodeCounter) (kind : CompoundKind) (compound : Counting) (ps : List (Option Tree)) → kind ≡ kinds.Map → Holds start kind compound ps → CountsParts start.descriptors (all_trees ps) (compound.count + 0)
map_count start kind compound ps is h =
    subst (λ k. CountsParts start.descriptors (all_trees (meant_parts k start.pending ps)) (compound.count + (for_part k ps start).descriptors)) is
    (subst (λ (a : NodeCounter). CountsParts start.descriptors (all_trees (meant_parts kind start.pending ps)) (compound.count + a.descriptors)) h.next h.count)

pub taken : (start : NodeCounter) (n : ℕ) (kind : CompoundKind) (compound new : Counting) (ps : List (Option Tree)) (p : Option Tree) → Holds start kind compound ps →
    CountsFrom compound.next.descriptors (meant compound.next.pending p) (Ok n) → new.own ≡ compound.own → new.fits ≡ compound.fits → new.next ≡ fresh → new.count ≡ compound.count + n → new.before_last ≡ compound.count →
    Holds start kind new (ps ++ (p ∷ []))
taken start n kind compound new ps p h g a b c d f = record {
  own = a ∙ h.own;
  fits = b ∙ h.fits;
  next = c ∙ for_next start kind ps p;
  count =
      let qs = meant_parts kind start.pending ps in
      let q = meant compound.next.pending p in
      let i : new.next.descriptors ≡ 0 = ap (λ (a : NodeCounter). a.descriptors) c in
      at_parts start.descriptors (compound.count + n) (new.count + new.next.descriptors) (joined (all_trees qs) (prepend q (Some no_trees))) (all_trees (meant_parts kind start.pending (ps ++ (p ∷ []))))
      (sym (all_trees-append qs (q ∷ [])) ∙ ap all_trees (sym (held_more start kind compound ps [] p h)))
      (omega arith)
      (one_more start.descriptors compound.count n compound.next.descriptors (all_trees qs) q h.count g);
  before_last = λ is odd qs q e. at_parts start.descriptors (compound.count + 0) new.before_last (all_trees ps) (all_trees qs) (ap all_trees (last_off ps qs p q e)) (omega arith) (map_count start kind compound ps is h);
}

pub undone : (start : NodeCounter) (compound new : Counting) (ps : List (Option Tree)) (p : Option Tree) → Holds start kinds.Map compound (ps ++ (p ∷ [])) → paired ps ≡ true →
    new.own ≡ compound.own → new.fits ≡ compound.fits → new.next ≡ compound.next → new.count ≡ compound.before_last → Holds start kinds.Map new ps
undone start compound new ps p h even a b c d = record {
  own = a ∙ h.own;
  fits = b ∙ h.fits;
  next = c ∙ h.next;
  count =
      let i : new.next.descriptors ≡ 0 = ap (λ (a : NodeCounter). a.descriptors) (c ∙ h.next) in
      at_parts start.descriptors compound.before_last (new.count + new.next.descriptors) (all_trees ps) (all_trees ps) refl (omega arith) (h.before_last refl (paired-last ps p ∙ ap not even) ps p refl);
  before_last = λ is odd. absurd (never (sym even ∙ odd));
}

abbrev PairsCount : Option Pairs → ℕ → Type 0
PairsCount None n = Unit {0}
PairsCount (Some ps) n = nodes_of_pairs ps ≡ n

more_pairs : (k v : Tree) (o : Option Pairs) (n : ℕ) → PairsCount o n → PairsCount (prepend_pair k v o) (nodes k + (nodes v + n))
more_pairs k v None n h = tt
more_pairs k v (Some ps) n h = ap (λ m. nodes k + (nodes v + m)) h

-- keys and values in turn have as many nodes as their pairs
pairs_nodes : (ts : Trees) → PairsCount (in_pairs ts) (nodes_each ts)
pairs_nodes no_trees = refl
pairs_nodes (more k no_trees) = tt
pairs_nodes (more k (more v ts)) = more_pairs k v (in_pairs ts) (nodes_each ts) (pairs_nodes ts)

map_nodes : (o : Option Pairs) (n : ℕ) (w : Tree) → PairsCount o n → as_map o ≡ Some w → nodes w ≡ n + 1
map_nodes None n w h e = cc
map_nodes (Some ps) n w h e = let same : w ≡ map ps = cc in let k = ap nodes same in omega arith

variant_nodes : (i : ℕ) (o : Option Tree) (w : Tree) → as_variant i o ≡ Some w → (t : Tree) × ((o ≡ Some t) × (nodes w ≡ nodes t + 1))
variant_nodes i None w e = cc
variant_nodes i (Some t) w e = let same : w ≡ variant i t = cc in (t, (refl, ap nodes same))

only_nodes : (ts : Trees) (w : Tree) → only ts ≡ Some w → nodes w ≡ nodes_each ts
only_nodes no_trees w e = cc
only_nodes (more t no_trees) w e = let same : w ≡ t = cc in let k = ap nodes same in omega arith
only_nodes (more t (more u ts)) w e = cc

-- a compound has the nodes of its parts and its own
kind_nodes : (kind : CompoundKind) (ts : Trees) (w : Tree) → as_kind kind (Some ts) ≡ Some w → nodes w ≡ nodes_each ts + own_nodes kind
kind_nodes kinds.List ts w e = let same : w ≡ list ts = cc in ap nodes same
kind_nodes kinds.Map ts w e = map_nodes (in_pairs ts) (nodes_each ts) w (pairs_nodes ts) e
kind_nodes (kinds.Variant i) ts w e = let same : w ≡ variant i (list ts) = cc in let k = ap nodes same in omega arith
kind_nodes (kinds.NewtypeVariant i) ts w e =
    let v = variant_nodes i (only ts) w e in
    let k = only_nodes ts v.0 v.1.0 in
    let j = v.1.1 in
    omega arith
kind_nodes kinds.Single ts w e = let k = only_nodes ts w e in omega arith

whole_nodes : (kind : CompoundKind) (o : Option Trees) (w : Tree) → as_kind kind o ≡ Some w → (ts : Trees) × ((o ≡ Some ts) × (nodes w ≡ nodes_each ts + own_nodes kind))
whole_nodes kind None w e = let k = kind_none kind in cc
whole_nodes kind (Some ts) w e = (ts, (refl, kind_nodes kind ts w e))

nothing_left : (start : NodeCounter) (kind : CompoundKind) (ps : List (Option Tree)) → complete kind ps ≡ true → (for_part kind ps start).descriptors ≡ 0
nothing_left start kinds.Single [] e = absurd (never (sym e))
nothing_left start kinds.Single (p ∷ ps) e = refl
nothing_left start kind ps e = refl

-- a checked sum of nodes is the count of the tree, or the error is too long
summed : (descriptors m : ℕ) (o : Option Tree) (r : Result ℕ Error) → is_some o ≡ true → Sums m r → ((w : Tree) → o ≡ Some w → m ≡ nodes w + descriptors) → CountsFrom descriptors o r
summed descriptors m None r is h f = absurd (never (sym is))
summed descriptors m (Some w) (Ok n) is h f = h ∙ f w refl
summed descriptors m (Some w) (Err x) is h f = (h.0, let k = h.1 in let e = f w refl in omega arith)

ended_on : (descriptors m own : ℕ) (kind : CompoundKind) (o : Option Trees) (r : Result ℕ Error) → CountsParts descriptors o m → own ≡ own_nodes kind → ((ts : Trees) → o ≡ Some ts → is_some (as_kind kind (Some ts)) ≡ true) →
    Sums (m + own) r → CountsFrom descriptors (as_kind kind o) r
ended_on descriptors m own kind None r h e f sum = absurd h
ended_on descriptors m own kind (Some ts) r h e f sum = summed descriptors (m + own) (as_kind kind (Some ts)) r (f ts refl) sum (λ w is. let k = kind_nodes kind ts w is in omega arith)

pub ended : (start : NodeCounter) (kind : CompoundKind) (compound : Counting) (ps : List (Option Tree)) (r : Result ℕ Error) → Holds start kind compound ps → complete kind ps ≡ true → compound.fits ≡ true →
    Sums (compound.count + compound.own) r → CountsFrom start.descriptors (meant start.pending (tree_of_parts kind ps)) r
unfolding tree_of_parts
ended start kind compound ps r h done fit sum =
    let qs = meant_parts kind start.pending ps in
    let i : compound.next.descriptors ≡ 0 = ap (λ (a : NodeCounter). a.descriptors) h.next ∙ nothing_left start kind ps done in
    through start.pending kind start.descriptors ps r (sym h.fits ∙ fit)
    (ended_on start.descriptors compound.count compound.own kind (all_trees qs) r (at_parts start.descriptors (compound.count + compound.next.descriptors) compound.count (all_trees qs) (all_trees qs) refl (omega arith) h.count) h.own
    (λ ts e. makes_tree kind qs ts (complete_meant kind start.pending ps ∙ done) e) sum)

-- an error is permitted if it is permitted on the tree, if there is one
on_tree : (descriptors : ℕ) (o : Option Tree) (e : Error) → IsRefusal e → ((w : Tree) → o ≡ Some w → CountsFrom descriptors (Some w) (Err e)) → CountsFrom descriptors o (Err e)
on_tree descriptors None e h f = h
on_tree descriptors (Some w) e h f = f w refl

-- the error of a part is permitted on the compound, with any parts after it
past : (descriptors m inner : ℕ) (kind : CompoundKind) (qs rest : List (Option Tree)) (q : Option Tree) (e : Error) → CountsParts descriptors (all_trees qs) (m + inner) → IsRefusal e →
    ((t : Tree) → q ≡ Some t → (e ≡ TooLong) × (2 ^ 64 ≤ m + (nodes t + inner))) → CountsFrom descriptors (tree_of_parts kind (qs ++ (q ∷ rest))) (Err e)
unfolding tree_of_parts
past descriptors m inner kind qs rest q e h refusal f = on_tree descriptors (tree_of_parts kind (qs ++ (q ∷ rest))) e refusal (λ w is.
    let b = whole_nodes kind (all_trees (qs ++ (q ∷ rest))) w is in
    let a = among_parts qs rest q b.0 b.1.0 in
    let k = counted_at descriptors (m + inner) (all_trees qs) a.ts h a.first in
    let g = f a.t a.it in
    let n = b.1.1 in
    let s = a.sum in
    let j = g.1 in
    (g.0, omega arith))

-- like `past`, for the intended tree of the compound
past_held : (b : Bool) (start : NodeCounter) (kind : CompoundKind) (compound : Counting) (ps rest : List (Option Tree)) (p : Option Tree) (e : Error) → fits kind start.pending ≡ b → Holds start kind compound ps → IsRefusal e →
    ((t : Tree) → meant compound.next.pending p ≡ Some t → (e ≡ TooLong) × (2 ^ 64 ≤ compound.count + (nodes t + compound.next.descriptors))) →
    CountsFrom start.descriptors (meant start.pending (tree_of_parts kind (ps ++ (p ∷ rest)))) (Err e)
past_held true start kind compound ps rest p e fit h refusal f =
    through start.pending kind start.descriptors (ps ++ (p ∷ rest)) (Err e) fit
    (subst (λ xs. CountsFrom start.descriptors (tree_of_parts kind xs) (Err e)) (sym (held_more start kind compound ps rest p h))
    (past start.descriptors compound.count compound.next.descriptors kind (meant_parts kind start.pending ps) rest (meant compound.next.pending p) e h.count refusal f))
past_held false start kind compound ps rest p e fit h refusal f = barred start.pending kind start.descriptors (ps ++ (p ∷ rest)) e fit refusal

-- the result for a part that has a tree
answer : (descriptors : ℕ) (o : Option Tree) (r : Result ℕ Error) (t : Tree) → CountsFrom descriptors o r → o ≡ Some t → CountsFrom descriptors (Some t) r
answer descriptors o r t h e = subst (λ q. CountsFrom descriptors q r) e h

pub refused : (start : NodeCounter) (kind : CompoundKind) (compound : Counting) (ps : List (Option Tree)) (p : Option Tree) (e : Error) → Holds start kind compound ps → CountsFrom compound.next.descriptors (meant compound.next.pending p) (Err e) →
    (rest : List (Option Tree)) → CountsFrom start.descriptors (meant start.pending (tree_of_parts kind (ps ++ (p ∷ rest)))) (Err e)
refused start kind compound ps p e h g rest = past_held (fits kind start.pending) start kind compound ps rest p e refl h (is_refusal compound.next.descriptors (meant compound.next.pending p) e g) (λ t is.
    let a = answer compound.next.descriptors (meant compound.next.pending p) (Err e) t g is in
    let m = a.1 in
    (a.0, omega arith))

pub too_many : (start : NodeCounter) (n : ℕ) (kind : CompoundKind) (compound : Counting) (ps : List (Option Tree)) (p : Option Tree) → Holds start kind compound ps → CountsFrom compound.next.descriptors (meant compound.next.pending p) (Ok n) →
    2 ^ 64 ≤ compound.count + n → (rest : List (Option Tree)) → CountsFrom start.descriptors (meant start.pending (tree_of_parts kind (ps ++ (p ∷ rest)))) (Err TooLong)
too_many start n kind compound ps p h g m rest = past_held (fits kind start.pending) start kind compound ps rest p TooLong refl h (inr refl) (λ t is.
    let a = answer compound.next.descriptors (meant compound.next.pending p) (Ok n) t g is in
    (refl, omega arith))
