-- A text is its lines.
use Rattle.std.proofs.Common.{◌≡◌, ◌≢◌, ℕ, ◌⊎◌, inl, inr, ◌==◌, Bool, true, false, List, [], ◌∷◌, ◌++◌, length, refl, sym, ap, ◌∙◌, append_assoc, subst, arith, if◌then◌else◌}
use Rattle.std.proofs.lemmas.Bool.Decides.{nat_tests}
use Rattle.std.proofs.lemmas.List.{append-nil}
use Rattle.std.proofs.lemmas.List.Splits.{join_with_byte-slice_split, length-slice_split, slice_split-cons_yes, slice_split-cons_no}
use Rattle.std.specs.List.{AllByRecursion, slice_split, onto_first, join_with_byte}
use Rattle.serde_amqp.specs.Lines.{without_empty_last, lines_of, ended, EndsFull, AreLines}

abbrev Text : List ℕ → Type 0
Text line = AllByRecursion (λ b. b ≢ 10) line

abbrev Joins : List (List ℕ) → List (List ℕ) → Type 0
Joins lines parts = (ended lines ≡ join_with_byte 10 parts) ⊎ ((ended lines ≡ join_with_byte 10 parts ++ 10 ∷ []) × EndsFull lines)

some-byte : (b : ℕ) (part : List ℕ) → (length (b ∷ part) == 0) ≡ false
some-byte b part = grind (arith, nat_tests)

other-byte : (x : ℕ) → (x == 10) ≡ false → x ≢ 10
other-byte x is e = grind (arith, nat_tests)

one-part : (part : List ℕ) → Joins (without_empty_last (part ∷ [])) (part ∷ [])
one-part [] = inl refl
one-part (b ∷ part) =
    let kept : without_empty_last ((b ∷ part) ∷ []) ≡ (b ∷ part) ∷ [] = ap (λ t. if t then [] else (b ∷ part) ∷ []) (some-byte b part) in
    inr (ap ended kept ∙ append-nil ((b ∷ part) ++ 10 ∷ []), ([], b ∷ part, kept, λ e. cc))

more-parts : (part next : List ℕ) (more lines : List (List ℕ)) → Joins lines (next ∷ more) → Joins (part ∷ lines) (part ∷ next ∷ more)
more-parts part next more lines (inl e) = inl (append_assoc part (10 ∷ []) (ended lines) ∙ ap (λ l. part ++ 10 ∷ l) e)
more-parts part next more lines (inr (e, (prefix, last, is, full))) = inr (
  append_assoc part (10 ∷ []) (ended lines) ∙ ap (λ l. part ++ 10 ∷ l) e ∙ sym (append_assoc part (10 ∷ join_with_byte 10 (next ∷ more)) (10 ∷ [])),
  (part ∷ prefix, last, ap (λ l. part ∷ l) is, full),
)

joins : (part : List ℕ) (parts : List (List ℕ)) → Joins (without_empty_last (part ∷ parts)) (part ∷ parts)
joins part [] = one-part part
joins part (next ∷ more) = more-parts part next more (without_empty_last (next ∷ more)) (joins next more)

-- No part contains the byte at which the text was split.
prefix-within : (x : ℕ) → x ≢ 10 → (parts : List (List ℕ)) → AllByRecursion Text parts → AllByRecursion Text (onto_first x parts)
prefix-within x other [] each = ((other, tt), tt)
prefix-within x other (part ∷ parts) each = ((other, each.0), each.1)

cut-within : (x : ℕ) (s : List ℕ) (b : Bool) → (x == 10) ≡ b → AllByRecursion Text (slice_split (λ b. b == 10) s) → AllByRecursion Text (slice_split (λ b. b == 10) (x ∷ s))
cut-within x s true is each = rw (slice_split-cons_yes (λ b. b == 10) x s is) (tt, each)
cut-within x s false is each = rw (slice_split-cons_no (λ b. b == 10) x s is) (prefix-within x (other-byte x is) (slice_split (λ b. b == 10) s) each)

split-within : (s : List ℕ) → AllByRecursion Text (slice_split (λ b. b == 10) s)
split-within [] = (tt, tt)
split-within (x ∷ s) = cut-within x s (x == 10) refl (split-within s)

lines-within : (parts : List (List ℕ)) → AllByRecursion Text parts → AllByRecursion Text (without_empty_last parts)
lines-within [] each = tt
lines-within (part ∷ []) each = go (length part == 0)
  where
    go : (b : Bool) → AllByRecursion Text (if b then [] else part ∷ [])
    go true = tt
    go false = each
lines-within (part ∷ next ∷ more) each = (each.0, lines-within (next ∷ more) each.1)

split-joins : (parts : List (List ℕ)) → parts ≢ [] → Joins (without_empty_last parts) parts
split-joins [] some = absurd (some refl)
split-joins (part ∷ parts) some = joins part parts

some-part : (s : List ℕ) → slice_split (λ b. b == 10) s ≢ []
some-part s = λ none.
    let size = length-slice_split (λ b. b == 10) s in
    let zero_size = ap length none in
    absurd (omega arith)

pub are-lines : (s : List ℕ) → AreLines s (lines_of s)
are-lines s = record {
  within = lines-within (slice_split (λ b. b == 10) s) (split-within s);
  text = subst (λ t. (ended (lines_of s) ≡ t) ⊎ ((ended (lines_of s) ≡ t ++ 10 ∷ []) × EndsFull (lines_of s))) (join_with_byte-slice_split 10 s) (split-joins (slice_split (λ b. b == 10) s) (some-part s));
}
