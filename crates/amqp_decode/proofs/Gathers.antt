-- Values that are read one after another.
use Rattle.std.proofs.Common.{◌≡◌, ℕ, zero, suc, ◌-◌, List, [], ◌∷◌, ◌++◌, Option, Some, None, refl, sym, ap, ◌∙◌, append_assoc, arith}
use Rattle.std.proofs.lemmas.List.{append-nil}
use Rattle.amqp_ser.specs.Tree.{Tree}
use Rattle.amqp_decode.specs.Scalars.{and_then}
use Rattle.amqp_decode.specs.Parsed.{ValueReader, gather}

-- The first element, and those after it.
abbrev prepended : List Tree → Option (List Tree × List ℕ) → Option (List Tree × List ℕ)
prepended done None = None
prepended done (Some p) = Some (done ++ p.0, p.1)

prepended_twice : (a b : List Tree) (o : Option (List Tree × List ℕ)) → prepended (a ++ b) o ≡ prepended a (prepended b o)
prepended_twice a b None = refl
prepended_twice a b (Some p) = ap (λ z. Some (z, p.1)) (append_assoc a b p.0)

module _ (f : ValueReader) where
  gather_by : (n : ℕ) (done : List Tree) → ((s : List ℕ) (done : List Tree) → gather f n s done ≡ prepended done (gather f n s [])) → (o : Option (Tree × List ℕ)) →
      and_then o (λ r. gather f n r.1 (done ++ r.0 ∷ [])) ≡ prepended done (and_then o (λ r. gather f n r.1 ([] ++ r.0 ∷ [])))
  gather_by n done on None = refl
  gather_by n done on (Some r) =
      on r.1 (done ++ r.0 ∷ []) ∙ prepended_twice done (r.0 ∷ []) (gather f n r.1 []) ∙ ap (prepended done) (sym (on r.1 (r.0 ∷ [])))

  gather_on : (n : ℕ) (s : List ℕ) (done : List Tree) → gather f n s done ≡ prepended done (gather f n s [])
  gather_on zero s done = ap (λ z. Some (z, s)) (sym (append-nil done))
  gather_on (suc n) s done = gather_by n done (gather_on n) (f s)

  pub first_gathered : (n : ℕ) (s rest : List ℕ) (t : Tree) (ts : List Tree) → (n ≡ 0 → ⊥) → f s ≡ Some (t, rest) → gather f (n - 1) rest [] ≡ Some (ts, [])
      → gather f n s [] ≡ Some (t ∷ ts, [])
  first_gathered zero s rest t ts some e all = absurd (some refl)
  first_gathered (suc n) s rest t ts some e all =
      let less : suc n - 1 ≡ n = omega arith in
      let inner : gather f n rest [] ≡ Some (ts, []) = sym (ap (λ m. gather f m rest []) less) ∙ all in
      ap (λ o. and_then o (λ r. gather f n r.1 ([] ++ r.0 ∷ []))) e ∙ gather_on n rest (t ∷ []) ∙ ap (prepended (t ∷ [])) inner

  rest_same : (g : ValueReader) (n : ℕ) (done : List Tree) → ((s : List ℕ) (done : List Tree) → gather f n s done ≡ gather g n s done) → (o : Option (Tree × List ℕ))
      → and_then o (λ r. gather f n r.1 (done ++ r.0 ∷ [])) ≡ and_then o (λ r. gather g n r.1 (done ++ r.0 ∷ []))
  rest_same g n done on None = refl
  rest_same g n done on (Some r) = on r.1 (done ++ r.0 ∷ [])

  pub gather_same : (g : ValueReader) → ((s : List ℕ) → f s ≡ g s) → (n : ℕ) (s : List ℕ) (done : List Tree) → gather f n s done ≡ gather g n s done
  gather_same g same zero s done = refl
  gather_same g same (suc n) s done =
      ap (λ o. and_then o (λ r. gather f n r.1 (done ++ r.0 ∷ []))) (same s) ∙ rest_same g n done (gather_same g same n) (g s)
