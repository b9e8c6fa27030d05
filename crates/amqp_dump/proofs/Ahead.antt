-- Bytes that were read ahead.
use Rattle.std.proofs.Common.{◌≡◌, ◌≤◌, ◌-◌, ◌+◌, ℕ, List, Option, None, Some, ◌++◌, sym, ap, ◌∙◌, append_assoc, take, drop, arith}
use Rattle.std.proofs.lemmas.List.{drop-drop, take-append-drop}
use Rattle.std.proofs.lemmas.Option.{none-some}
use Rattle.std.specs.List.{between}
use Rattle.std.specs.Io.KnownBytes.{prepend_known}
use Rattle.amqp_dump.specs.Kept.{ReadsMore, Stays}

-- the bytes of an item, and those after it, are all from its start on
between_and_rest : (xs : List ℕ) (a b : ℕ) → a ≤ b → between a b xs ++ drop b xs ≡ drop a xs
between_and_rest xs a b le =
    let end : a + (b - a) ≡ b = omega (arith, le) in
    let rest : drop b xs ≡ drop (b - a) (drop a xs) = ap (λ (n : ℕ). drop n xs) (sym end) ∙ sym (drop-drop (b - a) a xs) in
    ap (λ (ys : List ℕ). between a b xs ++ ys) rest ∙ take-append-drop (b - a) (drop a xs)

-- the same, before the bytes that a reader has left
between_and_left : (xs left : List ℕ) (a b : ℕ) → a ≤ b → between a b xs ++ (drop b xs ++ left) ≡ drop a xs ++ left
between_and_left xs left a b le =
    sym (append_assoc (between a b xs) (drop b xs) left) ∙ ap (λ (ys : List ℕ). ys ++ left) (between_and_rest xs a b le)

-- taking bytes that were read moves them to the item
pub taking_stays : (left : Option (List ℕ)) (xs : List ℕ) (a b n : ℕ) → a ≤ b
    → Stays (between a b xs) (prepend_known (drop b xs) left) (between a (b + n) xs) (prepend_known (drop (b + n) xs) left)
taking_stays None xs a b n le s e = e
taking_stays (Some ys) xs a b n le s e =
    let more : a ≤ b + n = omega (arith, le) in
    ap Some (between_and_left xs ys a (b + n) more ∙ sym (between_and_left xs ys a b le)) ∙ e

-- reading ahead moves bytes from the reader, and forgets what is before the item
pub reading_stays : (left left' : Option (List ℕ)) (xs mid ys : List ℕ) (a b : ℕ) → a ≤ b → mid ≡ drop a xs → ReadsMore mid left ys left'
    → Stays (between a b xs) (prepend_known (drop b xs) left) (between 0 (b - a) ys) (prepend_known (drop (b - a) ys) left')
reading_stays None left' xs mid ys a b le is read s e = absurd (none-some s e)
reading_stays (Some l) None xs mid ys a b le is read s e = absurd (read.1)
reading_stays (Some l) (Some m) xs mid ys a b le is read s e =
    let none : 0 ≤ b - a = omega arith in
    let all : between 0 (b - a) ys ++ (drop (b - a) ys ++ m) ≡ ys ++ m = between_and_left ys m 0 (b - a) none in
    let moved : ys ++ m ≡ mid ++ (read.0 ++ m) = ap (λ (zs : List ℕ). zs ++ m) (read.2) ∙ append_assoc mid (read.0) m in
    let back : mid ++ (read.0 ++ m) ≡ mid ++ l = ap (λ (zs : List ℕ). mid ++ zs) (sym (read.1)) in
    let old : mid ++ l ≡ between a b xs ++ (drop b xs ++ l) = ap (λ (zs : List ℕ). zs ++ l) is ∙ sym (between_and_left xs l a b le) in
    ap Some (all ∙ moved ∙ back ∙ old) ∙ e
