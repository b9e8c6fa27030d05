-- Lemmas for lists that are serialized one element at a time.
use Rattle.std.proofs.Common.{◌≡◌, suc, zero, ℕ, ◌<◌, ◌+◌, List, [], ◌∷◌, ◌++◌, length, map, take, drop, get_or, ap, refl, arith, add-one, subst}

-- The values of `f` on all elements are those before index i, the one at i, and those after it.
pub map-at : {X Y : Type 0} (f : X → Y) (xs : List X) (i : ℕ) (d : X) → i < length xs →
    map f xs ≡ map f (take i xs) ++ (f (get_or xs i d) ∷ map f (drop (i + 1) xs))
map-at f [] i d h = absurd (omega arith)
map-at f (x ∷ xs) zero d h = refl
map-at f (x ∷ xs) (suc i) d h = rw add-one (ap (λ ys. f x ∷ ys) (rw add-one at (map-at f xs i d (omega arith))))

-- A statement about three values holds for equal values.
pub moved : {B C D : Type 0} (P : B → C → D → Type 0) {b b' : B} {c c' : C} {d d' : D} → b ≡ b' → c ≡ c' → d ≡ d' → P b c d → P b' c' d'
moved P {b} {b'} {c} {c'} {d} {d'} p q r h =
    subst (λ x. P b' c' x) r (subst (λ y. P b' y d) q (subst (λ z. P z c d) p h))
