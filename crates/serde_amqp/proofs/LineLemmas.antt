-- The lines of a text are computed from its parts.
use Rattle.std.proofs.Common.{◌≡◌, ℕ, zero, suc, ◌-◌, ◌==◌, List, [], ◌∷◌, Some, option_map, Bool, true, false, if◌then◌else◌, length, take, slice_get, Bor, sym, ap, ◌∙◌, arith}
use Rattle.std.proofs.lemmas.List.{length-map}
use Rattle.std.proofs.lemmas.Option.{slice_get-map, slice_get_within}
use Rattle.serde_amqp.specs.Lines.{texts, without_empty_last}

-- The last part, at n, is removed if it is empty.
without_last : (parts : List (List ℕ)) (n : ℕ) (last : List ℕ) (b : Bool) → length parts ≡ suc n → slice_get parts n ≡ Some last → b ≡ (length last == 0) → without_empty_last parts ≡ (if b then take n parts else parts)
without_last [] n last b size is test = absurd (cc)
without_last (part ∷ []) zero last b size is test =
    let same : part ≡ last = cc in
    let tested : (length part == 0) ≡ b = rw same (sym test) in
    ap (λ d. if d then [] else part ∷ []) tested
without_last (part ∷ []) (suc n) last b size is test = absurd (omega arith)
without_last (part ∷ next ∷ more) zero last b size is test = absurd (omega arith)
without_last (part ∷ next ∷ more) (suc n) last true size is test = ap (λ l. part ∷ l) (without_last (next ∷ more) n last true (omega arith) is test)
without_last (part ∷ next ∷ more) (suc n) last false size is test = ap (λ l. part ∷ l) (without_last (next ∷ more) n last false (omega arith) is test)

some-last : (items : List (Bor (List ℕ))) (last : Bor (List ℕ)) → Some last ≡ slice_get items (length items - 1) → (length (texts items) ≡ suc (length items - 1)) × (slice_get (texts items) (length items - 1) ≡ Some last.now)
some-last items last is =
    let within = slice_get_within items (length items - 1) last (sym is) in (
      omega (arith, length-map items (λ x. x.now)),
      slice_get-map (λ x. x.now) items (length items - 1) ∙ ap (option_map (λ x. x.now)) (sym is),
    )

-- Testing the last item is enough to compute the lines.
pub last-tested : (items : List (Bor (List ℕ))) (last : Bor (List ℕ)) (b : Bool) → Some last ≡ slice_get items (length items - 1) → b ≡ (length last.now == 0) → without_empty_last (texts items) ≡ (if b then take (length items - 1) (texts items) else texts items)
last-tested items last b is test =
    let at = some-last items last is in
    without_last (texts items) (length items - 1) last.now b at.0 at.1 test
