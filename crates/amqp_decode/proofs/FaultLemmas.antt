-- The faults at each step of the reader.
use Rattle.std.proofs.Common.{◌≡◌, ℕ, zero, suc, ◌+◌, ◌-◌, ◌%◌, ◌*◌, ◌<◌, IsTrue, List, [], ◌∷◌, length, Some, None, Result, Ok, Err, inl, inr, refl, sym, ap, ◌∙◌, arith}
use Rattle.std.specs.Prelude.{◌⊎◌, IfErr}
use Rattle.amqp_data.specs.FormatCode.{code_of}
use Rattle.amqp_data.specs.declared.error.Error.{Error}
use Rattle.amqp_data.specs.declared.error.Error.TheVariants.{OutOfMemory, TooLong, InvalidValue, InvalidFormatCode, UnexpectedEof, Io, Message}
use Rattle.amqp_data.specs.declared.format_code.EncodingCodes.{EncodingCodes}
use Rattle.amqp_frame.specs.Code.{category}
use Rattle.amqp_ser.specs.Tree.{Tree}
use Rattle.amqp_decode.specs.Codes.{is_primitive, primitive_of}
use Rattle.amqp_decode.specs.Parsed.{ValueReader, ContentReader, content_at, payload_in, parse}
use Rattle.amqp_decode.specs.Faults.{Fault, PayloadFault, fault_of_values, fault_of_payload, fault_of_map, fault_of_array, fault_in, fault_in_item, fault_around, content_fault, decode_fault, FailsBy}
use Rattle.amqp_decode.proofs.CodeLemmas.{primitive-found, primitive-nonzero}

pub fails-at : {T : Type 0} (r : Result T Error) (a b : Error) → a ≡ b → FailsBy a r → FailsBy b r
fails-at (Ok v) a b e h = tt
fails-at (Err g) a b e h = λ m l. h m l ∙ e

-- An error of a call in which nothing was read is that of the whole.
pub fails-there : (g a b : Error) (P : Type 0) → ((g ≡ OutOfMemory → ⊥) → (g ≡ TooLong → ⊥) → P) → ((g ≡ OutOfMemory → ⊥) → (g ≡ TooLong → ⊥) → g ≡ a) → (P → a ≡ b)
    → (g ≡ OutOfMemory → ⊥) → (g ≡ TooLong → ⊥) → g ≡ b
fails-there g a b P none h same m l = h m l ∙ same (none m l)

-- An error of a part that has the fault of the whole.
pub fails-as : (g a b : Error) → a ≡ b → ((g ≡ OutOfMemory → ⊥) → (g ≡ TooLong → ⊥) → g ≡ a) → (g ≡ OutOfMemory → ⊥) → (g ≡ TooLong → ⊥) → g ≡ b
fails-as g a b e h m l = h m l ∙ e

-- Without a limit, an error is out of memory or that of the fault.
pub only-these : {T : Type 0} (f : Error) (r : Result T Error) → IfErr r (λ e. e ≡ TooLong → ⊥) → FailsBy f r → IfErr r (λ e. (e ≡ OutOfMemory) ⊎ (e ≡ f))
only-these f (Ok v) long h = tt
only-these f (Err e) long h = by_error e long h
  where
    by_error : (e : Error) → (e ≡ TooLong → ⊥) → ((e ≡ OutOfMemory → ⊥) → (e ≡ TooLong → ⊥) → e ≡ f) → (e ≡ OutOfMemory) ⊎ (e ≡ f)
    by_error OutOfMemory long h = inl refl
    by_error TooLong long h = absurd (long refl)
    by_error InvalidValue long h = inr (h (λ p. cc) long)
    by_error InvalidFormatCode long h = inr (h (λ p. cc) long)
    by_error UnexpectedEof long h = inr (h (λ p. cc) long)
    by_error Io long h = inr (h (λ p. cc) long)
    by_error (Message words) long h = inr (h (λ p. cc) long)

-- The faults at a depth that is not 0, and at 0.
pub fault-zero : (d : ℕ) (s : List ℕ) → d ≡ 0 → InvalidValue ≡ fault_in d s
unfolding fault_in fault_in_item
fault-zero zero s e = refl
fault-zero (suc d) s e = absurd (omega arith)

pub fault-at : (d : ℕ) (s : List ℕ) → 0 < d → fault_around (d - 1) s ≡ fault_in d s
unfolding fault_in fault_in_item
fault-at zero s lt = absurd (omega arith)
fault-at (suc d) s lt =
    let e : suc d - 1 ≡ d = omega arith in
    rw e refl

pub fault-empty : (d : ℕ) (s : List ℕ) → 0 < d → length s ≡ 0 → UnexpectedEof ≡ fault_in d s
fault-empty d [] lt e = fault-at d [] lt
fault-empty d (b ∷ s) lt e = absurd (omega arith)

pub item-fault-zero : (d : ℕ) (c : EncodingCodes) (s : List ℕ) → d ≡ 0 → InvalidValue ≡ fault_in_item d c s
unfolding fault_in fault_in_item
item-fault-zero zero c s e = refl
item-fault-zero (suc d) c s e = absurd (omega arith)

item-fault-at : (d : ℕ) (c : EncodingCodes) (s : List ℕ) → 0 < d → fault_of_payload (content_fault (d - 1)) c s ≡ fault_in_item d c s
unfolding fault_in fault_in_item
item-fault-at zero c s lt = absurd (omega arith)
item-fault-at (suc d) c s lt =
    let e : suc d - 1 ≡ d = omega arith in
    rw e refl

pub item-fault : (d : ℕ) (c : EncodingCodes) (s content rest : List ℕ) → 0 < d → content_at (category (code_of c)) s ≡ Some (content, rest) → content_fault (d - 1) c content ≡ fault_in_item d c s
item-fault d c s content rest lt is =
    let there : fault_of_payload (content_fault (d - 1)) c s ≡ content_fault (d - 1) c content = rw is refl in
    sym there ∙ item-fault-at d c s lt

pub item-ends : (d : ℕ) (c : EncodingCodes) (s : List ℕ) → 0 < d → content_at (category (code_of c)) s ≡ None → UnexpectedEof ≡ fault_in_item d c s
item-ends d c s lt is =
    let there : fault_of_payload (content_fault (d - 1)) c s ≡ UnexpectedEof = rw is refl in
    sym there ∙ item-fault-at d c s lt

-- The payload after the byte of a primitive code.
pub byte-fault : (d b : ℕ) (c : EncodingCodes) (s : List ℕ) → b ≡ code_of c → IsTrue (is_primitive c) → fault_of_payload (content_fault d) c s ≡ fault_around d (b ∷ s)
byte-fault d b c s is ok = rw (is, primitive-nonzero c ok, primitive-found c ok) refl

-- The values one after another.
module _ (c : Fault) (f : ValueReader) where
  pub values-step : (n i : ℕ) (s rest : List ℕ) (t : Tree) → i < n → f s ≡ Some (t, rest) → fault_of_values c f (n - (i + 1)) rest ≡ fault_of_values c f (n - i) s
  values-step n i s rest t lt e =
      let same : n - i ≡ suc (n - (i + 1)) = omega arith in
      let one : fault_of_values c f (suc (n - (i + 1))) s ≡ fault_of_values c f (n - (i + 1)) rest = rw e refl in
      sym (ap (λ m. fault_of_values c f m s) same ∙ one)

  pub values-here : (n i : ℕ) (s : List ℕ) → i < n → f s ≡ None → c s ≡ fault_of_values c f (n - i) s
  values-here n i s lt e =
      let same : n - i ≡ suc (n - (i + 1)) = omega arith in
      let one : fault_of_values c f (suc (n - (i + 1))) s ≡ c s = rw e refl in
      sym (ap (λ m. fault_of_values c f m s) same ∙ one)

  pub values-end : (n i : ℕ) (s : List ℕ) → n ≡ i → InvalidValue ≡ fault_of_values c f (n - i) s
  values-end n i s e =
      let none : n - i ≡ 0 = omega (arith, e) in
      sym (ap (λ m. fault_of_values c f m s) none)

  pub pair-fault : (n i : ℕ) (s mid rest : List ℕ) (t u : Tree) → i < n → f s ≡ Some (t, mid) → f mid ≡ Some (u, rest)
      → fault_of_values c f (2 * (n - (i + 1))) rest ≡ fault_of_values c f (2 * (n - i)) s
  pair-fault n i s mid rest t u lt e g =
      let same : 2 * (n - i) ≡ suc (suc (2 * (n - (i + 1)))) = omega arith in
      let both : fault_of_values c f (suc (suc (2 * (n - (i + 1))))) s ≡ fault_of_values c f (2 * (n - (i + 1))) rest = rw (e, g) refl in
      sym (ap (λ m. fault_of_values c f m s) same ∙ both)

  pub key-fault : (n i : ℕ) (s : List ℕ) → i < n → f s ≡ None → c s ≡ fault_of_values c f (2 * (n - i)) s
  key-fault n i s lt e =
      let same : 2 * (n - i) ≡ suc (suc (2 * (n - (i + 1)))) = omega arith in
      let one : fault_of_values c f (suc (suc (2 * (n - (i + 1))))) s ≡ c s = rw e refl in
      sym (ap (λ m. fault_of_values c f m s) same ∙ one)

  pub value-fault : (n i : ℕ) (s mid : List ℕ) (t : Tree) → i < n → f s ≡ Some (t, mid) → f mid ≡ None → c mid ≡ fault_of_values c f (2 * (n - i)) s
  value-fault n i s mid t lt e g =
      let same : 2 * (n - i) ≡ suc (suc (2 * (n - (i + 1)))) = omega arith in
      let both : fault_of_values c f (suc (suc (2 * (n - (i + 1))))) s ≡ c mid = rw (e, g) refl in
      sym (ap (λ m. fault_of_values c f m s) same ∙ both)

-- A map with an even count.
pub even-map : (c : Fault) (f : ValueReader) (n : ℕ) (s : List ℕ) → n % 2 ≡ 0 → fault_of_values c f n s ≡ fault_of_map c f (n, s)
even-map c f n s e = rw e refl

-- The elements of an array, given its constructor.
pub array-fault : (k : PayloadFault) (h : ContentReader) (c : ℕ) (code : EncodingCodes) (n : ℕ) (body rest : List ℕ) → primitive_of c ≡ Some code → body ≡ c ∷ rest
    → fault_of_values (k code) (payload_in h code) n rest ≡ fault_of_array k h (n, body)
array-fault k h c code n body rest ok is = rw (is, ok) refl

-- Exactly one value.
pub whole-none : (d : ℕ) (s : List ℕ) → parse d s ≡ None → fault_in d s ≡ decode_fault d s
whole-none d s e = rw e refl

pub whole-rest : (d : ℕ) (s rest : List ℕ) (t : Tree) → parse d s ≡ Some (t, rest) → InvalidValue ≡ decode_fault d s
whole-rest d s rest t e = rw e refl
