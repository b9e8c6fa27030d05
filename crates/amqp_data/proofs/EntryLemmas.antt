-- An appended entry, and its value after a change.
use Rattle.std.proofs.Common.{◌≡◌, ℕ, length, List, [], ◌∷◌, ◌++◌, get_or, slice_set, refl, ap, ◌∙◌}
use Rattle.std.proofs.lemmas.List.{get_or_push}

module _ {X : Type 0} where
  set_last : (es : List X) (p q : X) → slice_set (es ++ p ∷ []) (length es) q ≡ es ++ q ∷ []
  set_last [] p q = refl
  set_last (e ∷ es) p q = ap (λ r. e ∷ r) (set_last es p q)

module _ {K V : Type 0} (es new : List (K × V)) (k : K) (v : V) (i : ℕ) (e : K × V) where
  -- an appended entry is at the position after the others
  pub pushed_at : new ≡ es ++ (k, v) ∷ [] → i ≡ length es → e ≡ get_or new i e → e ≡ (k, v)
  pushed_at pushed last is =
      is ∙ ap (λ xs. get_or xs i e) pushed ∙ ap (λ j. get_or (es ++ (k, v) ∷ []) j e) last
      ∙ get_or_push es (k, v) e (length es) refl

  -- its value is changed
  pub pushed_set : new ≡ es ++ (k, v) ∷ [] → i ≡ length es → e ≡ get_or new i e → (w : V) → slice_set new i (e.0, w) ≡ es ++ (k, w) ∷ []
  pushed_set pushed last is w =
      ap (λ y. slice_set new i (y.0, w)) (pushed_at pushed last is)
      ∙ ap (λ xs. slice_set xs i (k, w)) pushed ∙ ap (λ j. slice_set (es ++ (k, v) ∷ []) j (k, w)) last
      ∙ set_last es (k, v) (k, w)
