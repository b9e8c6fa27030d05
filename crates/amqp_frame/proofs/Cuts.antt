-- The split of a byte string into encoded values exists and is unique.
use Rattle.std.proofs.Common.{◌≡◌, ℕ, zero, suc, ◌+◌, ◌<◌, List, [], ◌∷◌, ◌++◌, length, refl, sym, ap, ◌∙◌, append_assoc, arith, length-append}
use Rattle.std.proofs.lemmas.List.{append-nil}
use Rattle.std.specs.List.{AllByRecursion, concat}
use Rattle.amqp_frame.specs.EncodedValue.{IsEncodedValue, IsIncomplete, HasEncodedValue}
use Rattle.amqp_frame.specs.Cut.{IsCut}
use Rattle.amqp_frame.proofs.FirstEncodedValue.{Outcome, cut, cut-means, Means}
use Rattle.amqp_frame.proofs.FirstEncodedValue.Outcome.{whole, malformed, partial}
use Rattle.amqp_frame.proofs.Prefixes.{encoded-encoded, encoded-malformed, encoded-incomplete}

pub some-byte : (f : List ℕ) → IsEncodedValue f → 0 < length f
some-byte [] h = absurd (encoded-incomplete [] ([], [], h, refl) IsIncomplete.nothing)
some-byte (x ∷ f) h = omega arith

abbrev SomeCut : List ℕ → Type 0
SomeCut s = (encoded_values : List (List ℕ)) × (rest : List ℕ) × IsCut s encoded_values rest

no-cut : (s : List ℕ) → ¬ HasEncodedValue s → SomeCut s
no-cut s none = ([], s, record { whole = refl; each = tt; no_encoded_value = none })

add-cut : (s f r : List ℕ) → IsEncodedValue f → s ≡ f ++ r → SomeCut r → SomeCut s
add-cut s f r h e (encoded_values, rest, c) =
    let all = e ∙ ap (λ l. f ++ l) c.whole ∙ sym (append_assoc f (concat encoded_values) rest) in
    (f ∷ encoded_values, rest, record { whole = all; each = (h, c.each); no_encoded_value = c.no_encoded_value })

cut-by : (s : List ℕ) → ((r : List ℕ) → length r < length s → SomeCut r) → (o : Outcome) → Means s o → SomeCut s
cut-by s later (whole f r) m =
    let size = length-append f r in
    let e = ap length m.1 in
    let some = some-byte f m.0 in
    add-cut s f r m.0 m.1 (later r (omega arith))
cut-by s later (malformed b r) m = no-cut s (λ f. encoded-malformed s f (b, r, m.0, m.1))
cut-by s later partial m = no-cut s (λ f. encoded-incomplete s f m)

pub some-cut-within : (n : ℕ) (s : List ℕ) → length s < n → SomeCut s
some-cut-within zero s h = absurd (omega arith)
some-cut-within (suc n) s h =
    cut-by s (λ r k. some-cut-within n r (omega arith)) (cut (length s + 1) s)
    (cut-means (length s + 1) s (omega arith))

pub some-cut : (s : List ℕ) → SomeCut s
some-cut s = some-cut-within (length s + 1) s (omega arith)

pub one-cut : (s rest last : List ℕ) (encoded_values others : List (List ℕ)) → IsCut s encoded_values rest → IsCut s others last
    → (encoded_values ≡ others) × (rest ≡ last)
one-cut s rest last [] [] c d = (refl, sym c.whole ∙ d.whole)
one-cut s rest last [] (g ∷ others) c d =
    absurd (c.no_encoded_value (g, concat others ++ last, d.each.0, sym c.whole ∙ d.whole ∙ append_assoc g (concat others) last))
one-cut s rest last (f ∷ encoded_values) [] c d =
    absurd (d.no_encoded_value (f, concat encoded_values ++ rest, c.each.0, sym d.whole ∙ c.whole ∙ append_assoc f (concat encoded_values) rest))
one-cut s rest last (f ∷ encoded_values) (g ∷ others) c d =
    let x = concat encoded_values ++ rest in
    let y = concat others ++ last in
    let e : f ++ x ≡ g ++ y = sym (append_assoc f (concat encoded_values) rest) ∙ sym c.whole ∙ d.whole
    ∙ append_assoc g (concat others) last in
    let same = encoded-encoded f g x y c.each.0 d.each.0 e in
    let c' : IsCut x encoded_values rest = record { whole = refl; each = c.each.1; no_encoded_value = c.no_encoded_value } in
    let d' : IsCut x others last = record { whole = same.1; each = d.each.1; no_encoded_value = d.no_encoded_value } in
    let both = one-cut x rest last encoded_values others c' d' in
    (cc, both.1)

none-in-nothing : ¬ HasEncodedValue []
none-in-nothing (f, r, h, e) =
    let some = some-byte f h in
    let len = ap length e in
    omega (arith, length-append f r)

pub cut-back : (encoded_values : List (List ℕ)) → AllByRecursion IsEncodedValue encoded_values → IsCut (concat encoded_values) encoded_values []
cut-back encoded_values each = record { whole = sym (append-nil (concat encoded_values)); each = each; no_encoded_value = none-in-nothing }
