-- The effect of serializing parts of an open compound.
use Rattle.std.specs.Prelude.{List, [], ◌∷◌, ◌++◌, Option, Result, Err, MatchResult}
use Rattle.amqp_ser.specs.Tree.{Tree}
use Rattle.amqp_ser.specs.Compounds.{tree_of_parts}
use Rattle.amqp_ser.specs.declared.kind.CompoundKind.{CompoundKind}

-- One part. If it succeeds, the compound has one more part. If it fails, the compound is unchanged
-- and the error is permitted for the complete compound, whatever further parts follow.
abbrev pub SerializesPart : {S H O E : Type 0} → (S → Option Tree → Result O E → S → Type 0) → (S → CompoundKind → S → H → List (Option Tree) → Type 0) →
    CompoundKind → Option Tree → S → H → Result (Unit {0}) E → S → H → Type 0
SerializesPart {S} {H} {O} {E} permits has kind part before compound result after compound_after =
    (start : S) (ps : List (Option Tree)) → has start kind before compound ps →
    MatchResult result
    (λ _. has start kind after compound_after (ps ++ (part ∷ [])))
    (λ e. has start kind after compound_after ps × ((rest : List (Option Tree)) → permits start (tree_of_parts kind (ps ++ (part ∷ rest))) (Err e) after))

-- Parts that are serialized in one call. If all succeed, the compound has all of them. If one
-- fails, the error is permitted for the complete compound, whatever further parts follow.
abbrev pub SerializesParts : {S H O E : Type 0} → (S → Option Tree → Result O E → S → Type 0) → (S → CompoundKind → S → H → List (Option Tree) → Type 0) →
    List (Option Tree) → S → H → Result (Unit {0}) E → S → H → Type 0
SerializesParts {S} {H} {O} {E} permits has parts before compound result after compound_after =
    (start : S) (kind : CompoundKind) (ps : List (Option Tree)) → has start kind before compound ps →
    MatchResult result
    (λ _. has start kind after compound_after (ps ++ parts))
    (λ e. (rest : List (Option Tree)) → permits start (tree_of_parts kind (ps ++ (parts ++ rest))) (Err e) after)
