-- The bytes consumed for an encoded value, after each step and at the end.
use Rattle.std.proofs.Common.{◌≡◌, ℕ, suc, ◌+◌, ◌^◌, ◌-◌, ◌<◌, ◌≤◌, false, IsTrue, List, [], ◌∷◌, ◌++◌, inl, inr, Option, None, Some, IfSome, Result, Ok, Err, IsErrOf, IfOk, IfErr, OnErr, length, take, refl, sym, ap, ◌∙◌, arith, append_assoc, length-append, length-take}
use Rattle.std.proofs.lemmas.List.{append-nil}
use Rattle.std.proofs.lemmas.Bool.{cases_lt}
use Rattle.std.proofs.Math.Seq.{take-append-add, take-append_seam}
use Rattle.std.proofs.KnownBytes.{Consumes-trans}
use Rattle.std.specs.Io.KnownBytes.{Consumes}
use Rattle.amqp_frame.specs.Code.{is_primitive_code, category, size_width, body_len, payload_len}
use Rattle.amqp_frame.specs.declared.code.Category.{Category}
use Rattle.amqp_frame.specs.EncodedValue.{IsEncodedValue, IsIncomplete, IsMalformed, HasEncodedValue, HasMalformed}
use Rattle.amqp_frame.specs.Reader.{Takes, RunsOut}
use Rattle.amqp_frame.specs.Taking.{TakesIncomplete, TakesMalformed, RefusesEncodedValue, PassesLimit, ExceedsLimit, RefusesWithin, DecidedBy}
use Rattle.amqp_data.specs.declared.error.Error.{Error}
use Rattle.amqp_data.specs.declared.error.Error.TheVariants.{OutOfMemory, TooLong, InvalidValue, InvalidFormatCode, UnexpectedEof, Io, Message}
use Rattle.amqp_frame.proofs.Prefixes.{encoded-malformed, encoded-incomplete, malformed-incomplete}
use Rattle.amqp_frame.proofs.FirstEncodedValue.{body_len-take}
use Rattle.amqp_frame.proofs.Open.{Open, open-less, open-malformed, open-incomplete}
use Rattle.amqp_frame.proofs.Taking.{FallsShort}

no-bytes : (x : List ℕ) → length x < 1 → x ≡ []
no-bytes [] h = refl
no-bytes (b ∷ x) h = absurd (omega arith)

pub ends-at-code : (a b c : Option (List ℕ)) (taken : List ℕ) (n : ℕ) → Open taken n → 0 < n → Consumes a b taken
    → RunsOut b c 1 → TakesIncomplete a c
ends-at-code None b c taken n o pos t r = tt
ends-at-code (Some s) None c taken n o pos t r = absurd t
ends-at-code (Some s) (Some x) c taken n o pos t r =
    let all : s ≡ taken ++ [] = t ∙ ap (λ l. taken ++ l) (no-bytes x r.0) in
    (rw all (open-incomplete taken [] n pos IsIncomplete.nothing o), r.1)

pub ends-in-payload : (a b c : Option (List ℕ)) (taken : List ℕ) (code n : ℕ) → Open taken n → 0 < n
    → IsTrue (is_primitive_code code) → Consumes a b (taken ++ code ∷ []) → FallsShort (category code) b c
    → TakesIncomplete a c
ends-in-payload None b c taken code n o pos ok t r = tt
ends-in-payload (Some s) None c taken code n o pos ok t r = absurd t
ends-in-payload (Some s) (Some x) c taken code n o pos ok t r =
    let all : s ≡ taken ++ (code ∷ x) = t ∙ append_assoc taken (code ∷ []) x in
    (rw all (open-incomplete taken (code ∷ x) n pos (IsIncomplete.short code x ok r.0) o), r.1)

-- the payload of a code is cut off at the limit
short-within : (k : Category) (room : ℕ) (s : List ℕ) → room < payload_len k s → length (take room s) < payload_len k (take room s)
short-within k room s past =
    let len : length (take room s) ≤ room = omega (arith, length-take room s) in
    elim (cases_lt room (size_width k)) [ inl few ↦ omega arith | inr enough ↦ (let same : body_len k (take room s) ≡ body_len k s = body_len-take k room s enough in omega arith) ]

take-behind : (taken : List ℕ) (code limit : ℕ) (x : List ℕ) → length taken < limit
    → take limit (taken ++ (code ∷ x)) ≡ taken ++ (code ∷ take (limit - (length taken + 1)) x)
take-behind taken code limit x room =
    let n = limit - (length taken + 1) in
    let e : length taken + suc n ≡ limit = omega arith in
    ap (λ m. take m (taken ++ (code ∷ x))) (sym e) ∙ take-append-add taken (code ∷ x) (suc n)

pub limit-in-payload : (a b c : Option (List ℕ)) (taken : List ℕ) (code n limit : ℕ) → Open taken n → 0 < n → length taken < limit
    → IsTrue (is_primitive_code code) → Consumes a b (taken ++ code ∷ [])
    → PassesLimit limit (length taken + 1) (category code) b c → ExceedsLimit limit a c
limit-in-payload None b c taken code n limit o pos room ok t (more, u, within, past) =
    ((taken ++ code ∷ []) ++ more, Consumes-trans None b c (taken ++ code ∷ []) more t u, omega (arith, length-append (taken ++ code ∷ []) more, length-append taken (code ∷ [])), tt)
limit-in-payload (Some s) None c taken code n limit o pos room ok t p = absurd t
limit-in-payload (Some s) (Some x) c taken code n limit o pos room ok t (more, u, within, past) =
    let k = limit - (length taken + 1) in
    let all : s ≡ taken ++ (code ∷ x) = t ∙ append_assoc taken (code ∷ []) x in
    let first : take limit s ≡ taken ++ (code ∷ take k x) = ap (take limit) all ∙ take-behind taken code limit x room in
    let short : length (take k x) < payload_len (category code) (take k x) = short-within (category code) k x (omega arith) in (
      (taken ++ code ∷ []) ++ more,
      Consumes-trans (Some s) (Some x) c (taken ++ code ∷ []) more t u,
      omega (arith, length-append (taken ++ code ∷ []) more, length-append taken (code ∷ [])),
      rw first (open-incomplete taken (code ∷ take k x) n pos (IsIncomplete.short code (take k x) ok short) o),
    )

-- the limit is reached before a code
pub limit-at-code : (a b : Option (List ℕ)) (taken : List ℕ) (n limit : ℕ) → Open taken n → 0 < n → length taken ≡ limit
    → Consumes a b taken → ExceedsLimit limit a b
limit-at-code None b taken n limit o pos full t = (taken, t, omega arith, tt)
limit-at-code (Some s) None taken n limit o pos full t = absurd t
limit-at-code (Some s) (Some x) taken n limit o pos full t =
    let first : take limit s ≡ taken ++ [] = ap (take limit) t ∙ (ap (λ m. take m (taken ++ x)) (sym full) ∙ (take-append_seam taken x ∙ sym (append-nil taken))) in
    (taken, t, omega arith, rw first (open-incomplete taken [] n pos IsIncomplete.nothing o))

pub loses-code : (a b : Option (List ℕ)) (taken : List ℕ) (code n : ℕ) → Open taken n → 0 < n → 0 < code
    → is_primitive_code code ≡ false → Consumes a b (taken ++ code ∷ []) → TakesMalformed a b
loses-code a b taken code n o pos some bad t =
    (taken ++ code ∷ [], open-malformed taken (code ∷ []) n pos (IsMalformed.refused code some bad) o, t)

pub keeps-primitive : (taken after : List ℕ) (code n : ℕ) (bytes : List ℕ) → Open taken n → 0 < n
    → IsTrue (is_primitive_code code) → length bytes ≡ payload_len (category code) bytes
    → after ≡ (taken ++ code ∷ []) ++ bytes → Open after (n - 1)
keeps-primitive taken after code n bytes o pos ok len e =
    let all : after ≡ taken ++ (code ∷ bytes) = e ∙ append_assoc taken (code ∷ []) bytes in
    rw all (open-less taken (code ∷ bytes) n pos (IsEncodedValue.primitive code bytes ok len) o)

pub grown : (taken after more bytes : List ℕ) → after ≡ (taken ++ more) ++ bytes → length taken ≤ length after
grown taken after more bytes e = omega
    (arith, ap length e, length-append (taken ++ more) bytes, length-append taken more)

-- each result excludes the cases of the other results
pub decided : {T : Type 0} (r : Result T Error) (P : T → List ℕ) (old new : Option (List ℕ)) (f g : ℕ)
    → IfOk r (λ v. IsEncodedValue (P v) × Consumes old new (P v))
    → IfErr r (RefusesEncodedValue old new f g (TakesIncomplete old new) (TakesMalformed old new)) → IfSome old (λ s. DecidedBy s r)
decided r P None new f g ok err = tt
decided (Ok v) P (Some s) None f g ok err = absurd ok.1
decided (Ok v) P (Some s) (Some x) f g ok err =
    let has : HasEncodedValue s = (P v, x, ok.0, ok.1) in
    inr (inr (
      (λ _. has, λ _. refl),
      (λ e. cc, λ b. absurd (encoded-malformed s has b)),
      (λ e. cc, λ b. absurd (encoded-incomplete s has b)),
    ))
decided (Err OutOfMemory) P (Some s) new f g ok err = inl refl
decided (Err Io) P (Some s) new f g ok err = inr (inl refl)
decided (Err TooLong) P (Some s) new f g ok err = absurd err
decided (Err InvalidValue) P (Some s) new f g ok err = absurd err
decided (Err (Message words)) P (Some s) new f g ok err = absurd err
decided (Err InvalidFormatCode) P (Some s) None f g ok err = absurd err.2
decided (Err InvalidFormatCode) P (Some s) (Some x) f g ok err =
    let has : HasMalformed s = (err.0, x, err.1, err.2) in
    inr (inr (
      (λ e. cc, λ h. absurd (encoded-malformed s h has)),
      (λ _. has, λ _. refl),
      (λ e. cc, λ b. absurd (malformed-incomplete s has b)),
    ))
decided (Err UnexpectedEof) P (Some s) new f g ok err =
    inr (inr (
      (λ e. cc, λ h. absurd (encoded-incomplete s h err.0)),
      (λ e. cc, λ b. absurd (malformed-incomplete s b err.0)),
      (λ _. err.0, λ _. refl),
    ))

-- no error loses a byte, with a limit or without
pub kept : {T : Type 0} (r : Result T Error) (old new : Option (List ℕ)) (f g : ℕ)
    → IfErr r (RefusesEncodedValue old new f g (TakesIncomplete old new) (TakesMalformed old new)) → OnErr r (Takes old new)
kept (Ok v) old new f g err = tt
kept (Err OutOfMemory) old new f g err = err
kept (Err Io) old new f g err = err.0
kept (Err InvalidFormatCode) old new f g err = (err.0, err.2)
kept (Err UnexpectedEof) None new f g err = ([], tt)
kept (Err UnexpectedEof) (Some s) new f g err = rw err.1 (s, sym (append-nil s))
kept (Err TooLong) old new f g err = absurd err
kept (Err InvalidValue) old new f g err = absurd err
kept (Err (Message words)) old new f g err = absurd err

pub kept-within : (limit : ℕ) (e : Error) (old new : Option (List ℕ)) (f g : ℕ) → RefusesWithin limit old new f g e → Takes old new
kept-within limit OutOfMemory old new f g err = kept {T = List ℕ} (Err OutOfMemory) old new f g err
kept-within limit TooLong old new f g err = (err.0, err.1)
kept-within limit InvalidValue old new f g err = absurd err
kept-within limit InvalidFormatCode old new f g err = kept {T = List ℕ} (Err InvalidFormatCode) old new f g err
kept-within limit UnexpectedEof old new f g err = kept {T = List ℕ} (Err UnexpectedEof) old new f g err
kept-within limit Io old new f g err = kept {T = List ℕ} (Err Io) old new f g err
kept-within limit (Message words) old new f g err = absurd err

-- the greatest limit is never exceeded
pub endless : {T : Type 0} (limit : ℕ) (e : Error) (old new : Option (List ℕ)) (f g : ℕ) → 2 ^ 64 - 1 ≤ limit
    → (IsErrOf {T = T} (Err e) TooLong → limit < 2 ^ 64 - 1) → RefusesWithin limit old new f g e
    → RefusesEncodedValue old new f g (TakesIncomplete old new) (TakesMalformed old new) e
endless limit OutOfMemory old new f g max bound r = r
endless limit TooLong old new f g max bound r = let less = bound refl in absurd (omega arith)
endless limit InvalidValue old new f g max bound r = r
endless limit InvalidFormatCode old new f g max bound r = r
endless limit UnexpectedEof old new f g max bound r = r
endless limit Io old new f g max bound r = r
endless limit (Message words) old new f g max bound r = r
