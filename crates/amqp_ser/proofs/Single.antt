-- The tree of a single compound is the tree of its one value.
use Rattle.std.proofs.Common.{◌≡◌, List, [], ◌∷◌, Option, Some, None, Result, Ok, Err, MatchResult, refl, subst}
use Rattle.amqp_ser.specs.Tree.{Tree}
use Rattle.amqp_ser.specs.Compounds.{tree_of_parts}
use Rattle.amqp_ser.specs.declared.kind.CompoundKind.{CompoundKind}
use Rattle.amqp_ser.specs.declared.kind.CompoundKind.TheVariants as kind

pub whole_single : (p : Option Tree) → tree_of_parts kind.Single (p ∷ []) ≡ p
unfolding tree_of_parts
whole_single None = refl
whole_single (Some t) = refl

pub no_value : tree_of_parts kind.Single [] ≡ None
unfolding tree_of_parts
no_value = refl

-- An error of the one value of a single compound is permitted for that value.
pub one_value : {S H O E U : Type 0} (permits : S → Option Tree → Result O E → S → Type 0) (has : S → CompoundKind → S → H → List (Option Tree) → Type 0) (start now : S) (compound : H) (p : Option Tree) (r : Result U E) →
    MatchResult r (λ u. has start kind.Single now compound (p ∷ [])) (λ e. has start kind.Single now compound [] × ((rest : List (Option Tree)) → permits start (tree_of_parts kind.Single (p ∷ rest)) (Err e) now)) →
    MatchResult r (λ u. has start kind.Single now compound (p ∷ [])) (λ e. has start kind.Single now compound [] × permits start p (Err e) now)
one_value permits has start now compound p (Ok u) h = h
one_value permits has start now compound p (Err e) h = (h.0, subst (λ t. permits start t (Err e) now) (whole_single p) (h.1 []))
