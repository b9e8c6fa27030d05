-- The trees of the parts of a compound that is searched.
use Rattle.std.proofs.Common.{◌≡◌, List, [], ◌∷◌, ◌++◌, Option, Some, None, refl, ap, sym, ◌∙◌}
use Rattle.amqp_ser.specs.Tree.{Tree, Trees}
use Rattle.amqp_ser.specs.Compounds.{all_trees, prepend, as_kind, tree_of_parts}
use Rattle.amqp_ser.specs.Meant.{meant, meant_none, meant_parts}
use Rattle.amqp_ser.specs.declared.kind.CompoundKind.{CompoundKind}
use Rattle.amqp_ser.specs.declared.kind.CompoundKind.TheVariants as kinds
use Rattle.amqp_ser.specs.declared.pending.Pending.{Pending}
use Rattle.amqp_ser.proofs.Joins.{joined, all_trees-append, kind_none}
use Rattle.amqp_ser.proofs.Meant.{single_meant}
use Rattle.amqp_ser.proofs.Unmarked.{unmarked}
use Rattle.amqp_wire.specs.Finder.{fresh, for_part}
use Rattle.amqp_wire.specs.declared.finder.Finder.{Finder}

-- If one part has no tree, the compound has none.
pub none_of_parts : (u : Pending) (kind : CompoundKind) (ps : List (Option Tree)) → all_trees (meant_parts kind u ps) ≡ None → meant u (tree_of_parts kind ps) ≡ None
unfolding tree_of_parts
none_of_parts u kinds.Single ps e = sym (single_meant u ps) ∙ (ap (as_kind kinds.Single) e ∙ kind_none kinds.Single)
none_of_parts u kind ps e = ap (λ o. meant u (as_kind kind o)) e ∙ (ap (meant u) (kind_none kind) ∙ meant_none u)

-- The trees of parts are those before a part, that of the part, and the others.
meant_more : (kind : CompoundKind) (start : Finder) (ps rest : List (Option Tree)) (p : Option Tree) →
    meant_parts kind start.pending (ps ++ (p ∷ rest)) ≡ meant_parts kind start.pending ps ++ (meant (for_part kind ps start).pending p ∷ rest)
meant_more kinds.Single start [] rest p = refl
meant_more kinds.Single start (q ∷ ps) rest p = ap (λ x. meant start.pending q ∷ (ps ++ (x ∷ rest))) (sym (unmarked p))
meant_more kind start ps rest p = ap (λ x. ps ++ (x ∷ rest)) (sym (unmarked p))

pub trees_more : (kind : CompoundKind) (start next : Finder) (ps rest : List (Option Tree)) (p : Option Tree) → next ≡ for_part kind ps start →
    all_trees (meant_parts kind start.pending (ps ++ (p ∷ rest))) ≡ joined (all_trees (meant_parts kind start.pending ps)) (prepend (meant next.pending p) (all_trees rest))
trees_more kind start next ps rest p e =
    ap all_trees (meant_more kind start ps rest p)
    ∙ (all_trees-append (meant_parts kind start.pending ps) (meant (for_part kind ps start).pending p ∷ rest)
    ∙ ap (λ (a : Finder). joined (all_trees (meant_parts kind start.pending ps)) (prepend (meant a.pending p) (all_trees rest))) (sym e))

pub for_next : (start : Finder) (kind : CompoundKind) (ps : List (Option Tree)) (p : Option Tree) → fresh ≡ for_part kind (ps ++ (p ∷ [])) start
for_next start kinds.Single [] p = refl
for_next start kinds.Single (q ∷ ps) p = refl
for_next start kind ps p = refl
