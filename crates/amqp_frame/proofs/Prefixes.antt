-- The possible prefixes of a byte string.
use Rattle.std.proofs.Common.{◌≡◌, ℕ, ◌+◌, inl, inr, List, ◌++◌, length, sym, ap, ◌∙◌, arith}
use Rattle.amqp_frame.specs.EncodedValue.{IsEncodedValue, IsIncomplete, IsMalformed, HasEncodedValue, HasMalformed, ExactlyOne}
use Rattle.amqp_frame.proofs.FirstEncodedValue.{Outcome, cut, cut-encoded, cut-malformed, cut-incomplete, cut-means, Means}
use Rattle.amqp_frame.proofs.FirstEncodedValue.Outcome.{whole, malformed, partial}

pub encoded-encoded : (a b x y : List ℕ) → IsEncodedValue a → IsEncodedValue b → a ++ x ≡ b ++ y → (a ≡ b) × (x ≡ y)
encoded-encoded a b x y fa fb e =
    let n = length a + length b in
    let same : whole a x ≡ whole b y = sym (cut-encoded fa n x (omega arith)) ∙ ap (cut n) e
    ∙ cut-encoded fb n y (omega arith) in
    (cc, cc)

pub malformed-malformed : (a b x y : List ℕ) → IsMalformed a → IsMalformed b → a ++ x ≡ b ++ y → (a ≡ b) × (x ≡ y)
malformed-malformed a b x y ba bb e =
    let n = length a + length b in
    let same : malformed a x ≡ malformed b y = sym (cut-malformed ba n x (omega arith)) ∙ ap (cut n) e
    ∙ cut-malformed bb n y (omega arith) in
    (cc, cc)

pub encoded-malformed : (s : List ℕ) → HasEncodedValue s → ¬ HasMalformed s
encoded-malformed s (a, x, fa, ea) (b, y, bb, eb) =
    let n = length a + length b in
    let same : whole a x ≡ malformed b y = sym (cut-encoded fa n x (omega arith)) ∙ ap (cut n) (sym ea ∙ eb)
    ∙ cut-malformed bb n y (omega arith) in
    cc

pub encoded-incomplete : (s : List ℕ) → HasEncodedValue s → ¬ IsIncomplete s
encoded-incomplete s (a, x, fa, ea) be =
    let n = length a + length s in
    let same : whole a x ≡ partial = sym (cut-encoded fa n x (omega arith)) ∙ ap (cut n) (sym ea)
    ∙ cut-incomplete be n (omega arith) in
    cc

pub malformed-incomplete : (s : List ℕ) → HasMalformed s → ¬ IsIncomplete s
malformed-incomplete s (a, x, ba, ea) be =
    let n = length a + length s in
    let same : malformed a x ≡ partial = sym (cut-malformed ba n x (omega arith)) ∙ ap (cut n) (sym ea)
    ∙ cut-incomplete be n (omega arith) in
    cc

one-by : (s : List ℕ) (o : Outcome) → Means s o → ExactlyOne (HasEncodedValue s) (HasMalformed s) (IsIncomplete s)
one-by s (whole f r) m =
    let has : HasEncodedValue s = (f, r, m.0, m.1) in
    inl (has, encoded-malformed s has, encoded-incomplete s has)
one-by s (malformed b r) m =
    let has : HasMalformed s = (b, r, m.0, m.1) in
    inr (inl (λ f. encoded-malformed s f has, has, malformed-incomplete s has))
one-by s partial m = inr (inr (λ f. encoded-incomplete s f m, λ b. malformed-incomplete s b m, m))

pub one-case : (s : List ℕ) → ExactlyOne (HasEncodedValue s) (HasMalformed s) (IsIncomplete s)
one-case s = one-by s (cut (length s + 1) s) (cut-means (length s + 1) s (omega arith))
