-- Maps that are serialized one entry at a time.
use Rattle.std.proofs.Common.{◌≡◌, List, [], ◌∷◌, ◌++◌, Option, true, not, refl, ap, sym, ◌∙◌, append_assoc}
use Rattle.amqp_ser.specs.Tree.{Tree}
use Rattle.amqp_ser.specs.Compounds.{parts_of, paired}

-- The open map has accepted the keys and values before those of the remaining entries.
abbrev pub AcceptedUpTo : {K V : Type 0} → (List (Option Tree) → Type 0) → (K → Option Tree) → (V → Option Tree) → List (K × V) → List (K × V) → Type 0
AcceptedUpTo has f g left all =
    (ps : List (Option Tree)) × has ps × (paired ps ≡ true) × (ps ++ parts_of f g left ≡ parts_of f g all)

paired-two : (ps : List (Option Tree)) (p q : Option Tree) → paired (ps ++ (p ∷ (q ∷ []))) ≡ paired ps
paired-two [] p q = refl
paired-two (x ∷ ps) p q = ap not (paired-two ps p q)

module _ {K V : Type 0} (f : K → Option Tree) (g : V → Option Tree) where
  -- The map accepts one more entry.
  pub accepted_entry : (has now_has : List (Option Tree) → Type 0) (e : K × V) (left rest all : List (K × V)) → left ≡ e ∷ rest →
      (accepted : AcceptedUpTo has f g left all) → now_has (accepted.0 ++ (f e.0 ∷ (g e.1 ∷ []))) → AcceptedUpTo now_has f g rest all
  accepted_entry has now_has e left rest all h (ps, accepted, even, whole) more =
      let now : List (Option Tree) = ps ++ (f e.0 ∷ (g e.1 ∷ [])) in
      let parts : ps ++ parts_of f g left ≡ ps ++ (f e.0 ∷ (g e.1 ∷ parts_of f g rest)) = ap (λ es. ps ++ parts_of f g es) h in
      (now, more, paired-two ps (f e.0) (g e.1) ∙ even, append_assoc ps (f e.0 ∷ (g e.1 ∷ [])) (parts_of f g rest) ∙ sym parts ∙ whole)
