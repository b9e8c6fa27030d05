-- The test of one encoded value agrees with the grammar.
use Rattle.std.proofs.Common.{◌≡◌, ℕ, zero, suc, ◌≤◌, ◌&&◌, Bool, true, false, cond, eqb, List, [], ◌∷◌, ◌++◌, length, take, drop, refl, sym, ap, ◌∙◌, append_assoc, ◌+◌, nat_eq, Option, Some, None, IfSome, arith, length-take, take_all}
use Rattle.std.proofs.lemmas.List.{append-nil, take-append-drop}
use Rattle.std.proofs.lemmas.Bool.{eqb-true}
use Rattle.std.proofs.lemmas.Bool.Decides.{nat_tests}
use Rattle.std.specs.Option.{option_eq}
use Rattle.amqp_frame.specs.Code.{is_primitive_code, category, size_width, payload_len}
use Rattle.amqp_frame.specs.EncodedValue.{IsEncodedValue}
use Rattle.amqp_frame.specs.Whole.{ends, is_encoded_value}
use Rattle.amqp_frame.proofs.FirstEncodedValue.{body_len-take, payload_len-more, primitive-not-zero}
use Rattle.amqp_frame.proofs.Open.{Frames, encoded_values-more}

ends-payload : (n : ℕ) (p x : List ℕ) → ends n (length p) (p ++ x) ≡ ends n 0 x
ends-payload n [] x = refl
ends-payload n (b ∷ p) x = ends-payload n p x

-- an encoded value reduces the number of expected values by one
ends-encoded : {a : List ℕ} → IsEncodedValue a → (n : ℕ) (x : List ℕ) → ends (suc n) 0 (a ++ x) ≡ ends n 0 x
ends-encoded (IsEncodedValue.primitive c p ok len) n x =
    let more : payload_len (category c) (p ++ x) ≡ length p = payload_len-more (category c) p x (omega arith)
    ∙ sym len in
    rw (primitive-not-zero c ok, ok, more) (ends-payload n p x)
ends-encoded (IsEncodedValue.described d v fd fv) n x =
    ap (ends (suc (suc n)) 0) (append_assoc d v x) ∙ ends-encoded fd (suc n) (v ++ x) ∙ ends-encoded fv n x

pub encoded_value_passes : (bytes : List ℕ) → IsEncodedValue bytes → is_encoded_value bytes ≡ true
unfolding is_encoded_value
encoded_value_passes bytes f = rw (append-nil bytes) at (ends-encoded f 0 [])

-- k bytes, followed by n encoded values
abbrev Remains : ℕ → ℕ → List ℕ → Type 0
Remains n k s = (k ≤ length s) × Frames n (drop k s)

-- after the code 00, two values are expected in place of one; after any other code, its payload
after-code : (n c : ℕ) (s : List ℕ) (zero_code primitive : Bool) → eqb c 0 ≡ zero_code → is_primitive_code c ≡ primitive
    → ((m k : ℕ) → ends m k s ≡ true → Remains m k s)
    → cond zero_code (ends (suc (suc n)) 0 s) (primitive && ends n (payload_len (category c) s) s) ≡ true
    → Frames (suc n) (c ∷ s)
after-code n c s true primitive z p rest h =
    let same : c ≡ 0 = eqb-true c 0 z in
    rw same (encoded_values-more n s (rest (suc (suc n)) 0 h).1)
after-code n c s false false z p rest h = absurd cc
after-code n c s false true z p rest h =
    let m = payload_len (category c) s in
    let r = rest n m h in
    let len : length (take m s) ≡ m = omega (arith, length-take m s, r.0) in
    let same : payload_len (category c) (take m s) ≡ m
    = ap (λ l. size_width (category c) + l) (body_len-take (category c) m s (omega arith)) in (
      c ∷ take m s,
      drop m s,
      IsEncodedValue.primitive c (take m s) p (len ∙ sym same),
      r.1,
      ap (λ l. c ∷ l) (sym (take-append-drop m s)),
    )

passes-remains : (s : List ℕ) (n k : ℕ) → ends n k s ≡ true → Remains n k s
passes-remains [] zero zero h = (omega arith, refl)
passes-remains [] (suc n) zero h = absurd cc
passes-remains [] zero (suc k) h = absurd cc
passes-remains [] (suc n) (suc k) h = absurd cc
passes-remains (c ∷ s) zero zero h = absurd cc
passes-remains (c ∷ s) zero (suc k) h = let r = passes-remains s zero k h in (omega (arith, r.0), r.1)
passes-remains (c ∷ s) (suc n) (suc k) h = let r = passes-remains s (suc n) k h in (omega (arith, r.0), r.1)
passes-remains (c ∷ s) (suc n) zero h =
    (omega arith, after-code n c s (eqb c 0) (is_primitive_code c) refl refl (λ m k. passes-remains s m k) h)

pub passes_encoded_value : (bytes : List ℕ) → is_encoded_value bytes ≡ true → IsEncodedValue bytes
unfolding is_encoded_value
passes_encoded_value bytes h =
    let (f, none, whole, e, all) = (passes-remains bytes 1 0 h).1 in
    rw (all, e, append-nil) whole

no_false : false ≡ true → ⊥
no_false h = cc

same_nat : (m n : ℕ) → nat_eq m n ≡ true → m ≡ n
same_nat m n h = grind (arith, nat_tests)

nat_itself : (n : ℕ) → nat_eq n n ≡ true
nat_itself n = grind (arith, nat_tests)

-- r is the length of all the bytes if and only if the bytes pass the test
pub all_of_them : (bytes : List ℕ) (r : Option ℕ) → IfSome r (λ n. (n ≤ length bytes) × IsEncodedValue (take n bytes))
    → ((prefix rest : List ℕ) → IsEncodedValue prefix → bytes ≡ prefix ++ rest → r ≡ Some (length prefix)) → (b : Bool)
    → is_encoded_value bytes ≡ b → option_eq nat_eq r (Some (length bytes)) ≡ b
all_of_them bytes r found only true e =
    ap (λ o. option_eq nat_eq o (Some (length bytes)))
    (only bytes [] (passes_encoded_value bytes e) (sym (append-nil bytes)))
    ∙ nat_itself (length bytes)
all_of_them bytes None found only false e = refl
all_of_them bytes (Some n) found only false e = by (nat_eq n (length bytes)) refl
  where
    by : (b : Bool) → nat_eq n (length bytes) ≡ b → b ≡ false
    by true q =
        let same : n ≡ length bytes = same_nat n (length bytes) q in
        let all : take n bytes ≡ bytes = take_all n bytes (omega arith) in
        absurd (no_false (sym e ∙ encoded_value_passes bytes (rw all at found.1)))
    by false q = refl

-- bytes that pass the test are not empty
pub some_byte_passes : (bytes : List ℕ) → is_encoded_value bytes ≡ true → 1 ≤ length bytes
unfolding is_encoded_value
some_byte_passes [] h = absurd cc
some_byte_passes (b ∷ bytes) h = omega arith
