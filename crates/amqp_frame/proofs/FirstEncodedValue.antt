-- The first encoded value of a byte string, or the reason why there is none, as one function. The
-- laws of the grammar follow from it.
use Rattle.std.proofs.Common.{◌≡◌, ℕ, zero, suc, ◌+◌, ◌<◌, ◌≤◌, Bool, true, false, cond, eqb, leb, IsTrue, List, [], ◌∷◌, ◌++◌, length, take, drop, refl, sym, ap, ◌∙◌, append_assoc, arith, length-append, length-take}
use Rattle.std.proofs.lemmas.List.{take-append-drop, get_or-take}
use Rattle.std.proofs.Math.Seq.{take-append_seam, drop-append_seam}
use Rattle.std.proofs.lemmas.Bool.{le-leb, lt-leb, leb-true, leb-false}
use Rattle.std.proofs.lemmas.Bool.Decides.{nat_tests}
use Rattle.amqp_frame.specs.declared.code.Category.{Category}
use Rattle.amqp_frame.specs.declared.code.Category.TheVariants.{Fixed, OneByteSize, FourByteSize}
use Rattle.amqp_frame.specs.Code.{is_primitive_code, category, size_width, body_len, payload_len}
use Rattle.amqp_frame.specs.EncodedValue.{IsEncodedValue, IsIncomplete, IsMalformed}

pub data Outcome : Type 0 where
  whole : List ℕ → List ℕ → Outcome
  malformed : List ℕ → List ℕ → Outcome
  partial : Outcome

-- prepends bytes to what was found
abbrev pub shift : List ℕ → Outcome → Outcome
shift d (whole f r) = whole (d ++ f) r
shift d (malformed f r) = malformed (d ++ f) r
shift d partial = partial

abbrev pub join : (List ℕ → Outcome) → Outcome → Outcome
join next (whole d r) = shift (0 ∷ d) (next r)
join next (malformed b r) = malformed (0 ∷ b) r
join next partial = partial

-- a code with its payload of n bytes, and the rest
abbrev pub split_after : ℕ → ℕ → List ℕ → Outcome
split_after n c s = whole (c ∷ take n s) (drop n s)

abbrev pub fit_cut : Bool → ℕ → List ℕ → Outcome
fit_cut fits c s = cond fits (split_after (payload_len (category c) s) c s) partial

abbrev pub primitive_cut : ℕ → List ℕ → Outcome
primitive_cut c s =
    cond (is_primitive_code c) (fit_cut (leb (payload_len (category c) s) (length s)) c s) (malformed (c ∷ []) s)

abbrev pub cut : ℕ → List ℕ → Outcome
cut zero s = partial
cut (suc n) [] = partial
cut (suc n) (c ∷ s) = cond (eqb c 0) (join (cut n) (cut n s)) (primitive_cut c s)

pub body_len-take : (k : Category) (j : ℕ) (s : List ℕ) → size_width k ≤ j → body_len k (take j s) ≡ body_len k s
unfolding size_width body_len
body_len-take (Fixed n) j s h = refl
body_len-take OneByteSize j s h =
    let h0 : 0 < j = omega arith in
    simp get_or-take
body_len-take FourByteSize j s h =
    let h0 : 0 < j = omega arith in
    let h1 : 1 < j = omega arith in
    let h2 : 2 < j = omega arith in
    let h3 : 3 < j = omega arith in
    simp get_or-take

pub body_len-prefix : (k : Category) (p x : List ℕ) → size_width k ≤ length p → body_len k (p ++ x) ≡ body_len k p
body_len-prefix k p x h =
    let prefix : body_len k (take (length p) (p ++ x)) ≡ body_len k (p ++ x) = body_len-take k (length p) (p ++ x) h in
    let same : take (length p) (p ++ x) ≡ p = take-append_seam p x in
    sym (rw same at prefix)

pub payload_len-more : (k : Category) (p x : List ℕ) → payload_len k p ≤ length p
    → payload_len k (p ++ x) ≡ payload_len k p
payload_len-more k p x h = ap (λ n. size_width k + n) (body_len-prefix k p x (omega arith))

pub primitive-not-zero : (c : ℕ) → IsTrue (is_primitive_code c) → eqb c 0 ≡ false
unfolding is_primitive_code
primitive-not-zero zero h = cc
primitive-not-zero (suc c) h = grind (arith, nat_tests)

pub positive-not-zero : (c : ℕ) → 0 < c → eqb c 0 ≡ false
positive-not-zero c h = grind (arith, nat_tests)

-- The function finds what the grammar states.

pub cut-primitive : (c : ℕ) (p x : List ℕ) → IsTrue (is_primitive_code c) → length p ≡ payload_len (category c) p
    → primitive_cut c (p ++ x) ≡ whole (c ∷ p) x
cut-primitive c p x ok len =
    let more : payload_len (category c) (p ++ x) ≡ length p = payload_len-more (category c) p x (omega arith)
    ∙ sym len in
    let fits : leb (length p) (length (p ++ x)) ≡ true = le-leb _ _ (omega (arith, length-append p x)) in
    rw (ok, more, fits, take-append_seam, drop-append_seam) refl

pub cut-short : (c : ℕ) (p : List ℕ) → IsTrue (is_primitive_code c) → length p < payload_len (category c) p
    → primitive_cut c p ≡ partial
cut-short c p ok len =
    let short : leb (payload_len (category c) p) (length p) ≡ false = lt-leb _ _ len in
    rw (ok, short) refl

pub cut-encoded : {a : List ℕ} → IsEncodedValue a → (n : ℕ) (x : List ℕ) → length a ≤ n → cut n (a ++ x) ≡ whole a x
cut-encoded (IsEncodedValue.primitive c p ok len) zero x h = absurd (omega arith)
cut-encoded (IsEncodedValue.primitive c p ok len) (suc n) x h = rw (primitive-not-zero c ok) (cut-primitive c p x ok len)
cut-encoded (IsEncodedValue.described d v fd fv) zero x h = absurd (omega arith)
cut-encoded (IsEncodedValue.described d v fd fv) (suc n) x h =
    let len = length-append d v in
    let first : cut n ((d ++ v) ++ x) ≡ whole d (v ++ x) = rw append_assoc (cut-encoded fd n (v ++ x) (omega arith)) in
    let second : cut n (v ++ x) ≡ whole v x = cut-encoded fv n x (omega arith) in
    rw (first, second) refl

pub cut-malformed : {a : List ℕ} → IsMalformed a → (n : ℕ) (x : List ℕ) → length a ≤ n → cut n (a ++ x) ≡ malformed a x
cut-malformed (IsMalformed.refused c pos bad) zero x h = absurd (omega arith)
cut-malformed (IsMalformed.refused c pos bad) (suc n) x h = rw (positive-not-zero c pos, bad) refl
cut-malformed (IsMalformed.in_descriptor b br) zero x h = absurd (omega arith)
cut-malformed (IsMalformed.in_descriptor b br) (suc n) x h =
    let first : cut n (b ++ x) ≡ malformed b x = cut-malformed br n x (omega arith) in
    rw first refl
cut-malformed (IsMalformed.in_value d b fd br) zero x h = absurd (omega arith)
cut-malformed (IsMalformed.in_value d b fd br) (suc n) x h =
    let len = length-append d b in
    let first : cut n ((d ++ b) ++ x) ≡ whole d (b ++ x) = rw append_assoc (cut-encoded fd n (b ++ x) (omega arith)) in
    let second : cut n (b ++ x) ≡ malformed b x = cut-malformed br n x (omega arith) in
    rw (first, second) refl

pub cut-incomplete : {s : List ℕ} → IsIncomplete s → (n : ℕ) → length s ≤ n → cut n s ≡ partial
cut-incomplete IsIncomplete.nothing zero h = refl
cut-incomplete IsIncomplete.nothing (suc n) h = refl
cut-incomplete (IsIncomplete.short c p ok len) zero h = refl
cut-incomplete (IsIncomplete.short c p ok len) (suc n) h = rw (primitive-not-zero c ok) (cut-short c p ok len)
cut-incomplete (IsIncomplete.in_descriptor b be) zero h = refl
cut-incomplete (IsIncomplete.in_descriptor b be) (suc n) h =
    let first : cut n b ≡ partial = cut-incomplete be n (omega arith) in
    rw first refl
cut-incomplete (IsIncomplete.in_value d b fd be) zero h = refl
cut-incomplete (IsIncomplete.in_value d b fd be) (suc n) h =
    let len = length-append d b in
    let first : cut n (d ++ b) ≡ whole d b = cut-encoded fd n b (omega arith) in
    let second : cut n b ≡ partial = cut-incomplete be n (omega arith) in
    rw (first, second) refl

-- The grammar holds for what the function finds.

abbrev pub Means : List ℕ → Outcome → Type 0
Means s (whole f r) = IsEncodedValue f × (s ≡ f ++ r)
Means s (malformed b r) = IsMalformed b × (s ≡ b ++ r)
Means s partial = IsIncomplete s

shift-means : (d r : List ℕ) → IsEncodedValue d → (o : Outcome) → Means r o → Means (0 ∷ d ++ r) (shift (0 ∷ d) o)
shift-means d r fd (whole f x) m = (IsEncodedValue.described d f fd m.0, rw (m.1, append_assoc) refl)
shift-means d r fd (malformed f x) m = (IsMalformed.in_value d f fd m.0, rw (m.1, append_assoc) refl)
shift-means d r fd partial m = IsIncomplete.in_value d r fd m

join-means : (s : List ℕ) (next : List ℕ → Outcome) → ((r : List ℕ) → length r ≤ length s → Means r (next r))
    → (o : Outcome) → Means s o → Means (0 ∷ s) (join next o)
join-means s next h (whole d r) m =
    let len = length-append d r in
    let e = ap length m.1 in
    rw m.1 (shift-means d r m.0 (next r) (h r (omega arith)))
join-means s next h (malformed b r) m = (IsMalformed.in_descriptor b m.0, rw m.1 refl)
join-means s next h partial m = IsIncomplete.in_descriptor s m

primitive-means : (c : ℕ) (s : List ℕ) → 0 < c → Means (c ∷ s) (primitive_cut c s)
primitive-means c s pos = by_code (is_primitive_code c) refl
  where
    by_len : (b : Bool) → IsTrue (is_primitive_code c) → leb (payload_len (category c) s) (length s) ≡ b
        → Means (c ∷ s) (fit_cut b c s)
    by_len true ok e =
        let fits : payload_len (category c) s ≤ length s = leb-true _ _ e in
        let m = payload_len (category c) s in
        let len : length (take m s) ≡ m = omega (arith, length-take m s) in
        let same : payload_len (category c) (take m s) ≡ m
        = ap (λ n. size_width (category c) + n) (body_len-take (category c) m s (omega arith)) in
        (IsEncodedValue.primitive c (take m s) ok (len ∙ sym same), rw take-append-drop refl)
    by_len false ok e = IsIncomplete.short c s ok (leb-false _ _ e)

    by_code : (b : Bool) → is_primitive_code c ≡ b
        → Means (c ∷ s) (cond b (fit_cut (leb (payload_len (category c) s) (length s)) c s) (malformed (c ∷ []) s))
    by_code true e = by_len _ e refl
    by_code false e = (IsMalformed.refused c pos e, refl)

pub cut-means : (n : ℕ) (s : List ℕ) → length s < n → Means s (cut n s)
cut-means zero s h = absurd (omega arith)
cut-means (suc n) [] h = IsIncomplete.nothing
cut-means (suc n) (zero ∷ s) h = join-means s (cut n) (λ r k. cut-means n r (omega arith)) (cut n s)
    (cut-means n s (omega arith))
cut-means (suc n) (suc c ∷ s) h = rw (positive-not-zero (suc c) (omega arith)) (primitive-means (suc c) s (omega arith))
