-- The last part of a list of parts.
use Rattle.std.proofs.Common.{◌≡◌, List, [], ◌∷◌, ◌++◌, Option, not, refl, ap}
use Rattle.amqp_ser.specs.Tree.{Tree}
use Rattle.amqp_ser.specs.Compounds.{paired}

one_left : (p : Option Tree) (qs : List (Option Tree)) (q : Option Tree) → p ∷ [] ≡ qs ++ (q ∷ []) → [] ≡ qs
one_left p [] q e = refl
one_left p (x ∷ []) q e = cc
one_left p (x ∷ (y ∷ qs)) q e = cc

nothing_left : (A : Type 0) (qs : List (Option Tree)) (q : Option Tree) → [] ≡ qs ++ (q ∷ []) → A
nothing_left A [] q e = cc
nothing_left A (x ∷ qs) q e = cc

-- If two lists with one more part each are equal, the lists are equal.
pub last_off : (ps qs : List (Option Tree)) (p q : Option Tree) → ps ++ (p ∷ []) ≡ qs ++ (q ∷ []) → ps ≡ qs
last_off [] qs p q e = one_left p qs q e
last_off (x ∷ ps) [] p q e = nothing_left (x ∷ ps ≡ []) ps p (cc)
last_off (x ∷ ps) (y ∷ qs) p q e =
    let tails : ps ++ (p ∷ []) ≡ qs ++ (q ∷ []) = cc in
    let r = last_off ps qs p q tails in
    let heads : x ≡ y = cc in
    cc

pub paired-last : (ps : List (Option Tree)) (p : Option Tree) → paired (ps ++ (p ∷ [])) ≡ not (paired ps)
paired-last [] p = refl
paired-last (x ∷ ps) p = ap not (paired-last ps p)
