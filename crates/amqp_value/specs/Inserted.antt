-- The hash maps that result from inserting pairs in order.
use Rattle.std.specs.Prelude.{◌≡◌, Bool, false, List, [], ◌∷◌}
use Rattle.std.specs.HashMap as hashed
use Rattle.std.specs.List.{AllByRecursion}
use Rattle.std.specs.List.Sorted.{IsPermutation}

-- `R` relates each element to every later one.
abbrev pub EachBefore : {X : Type 0} → (X → X → Type 0) → List X → Type 0
EachBefore R [] = Unit {0}
EachBefore R (x ∷ xs) = AllByRecursion (R x) xs × EachBefore R xs

module _ {K V H : Type 0} where
  -- The map results from inserting the pairs in order, and holds them in an unspecified order. If
  -- no two keys are equal, its entries are a permutation of the pairs.
  abbrev pub HoldsHashed : (K → K → Bool) → List (K × V) → hashed.HashMap K V H → Type 0
  HoldsHashed eq ps m = hashed.IsFromIterResult eq ps m × (EachBefore (λ p q. eq q.0 p.0 ≡ false) ps → IsPermutation ps m.entries)
