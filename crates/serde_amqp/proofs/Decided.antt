-- The rest of the cut decides the result of a run.
use Rattle.std.proofs.Common.{◌≡◌, ◌≢◌, ℕ, ◌^◌, ◌≤◌, ◌<◌, inl, inr, ◌↔◌, List, [], ◌∷◌, Option, None, Some, Result, Ok, Err, IsOk, IsErrOf, IfSome, IfErr, OnOk, length, length-append, refl, ap, subst, arith}
use Rattle.std.proofs.lemmas.Bool.{false≢true}
use Rattle.std.specs.List.{AllByRecursion, concat}
use Rattle.amqp_data.specs.declared.error.Error.{Error}
use Rattle.amqp_data.specs.declared.error.Error.TheVariants.{OutOfMemory, TooLong, InvalidValue, InvalidFormatCode, UnexpectedEof, Io, Message}
use Rattle.amqp_frame.specs.Cut.{IsCut}
use Rattle.amqp_frame.specs.EncodedValue.{IsEncodedValue, IsIncomplete, HasEncodedValue, HasMalformed, ExactlyOne}
use Rattle.serde_amqp.specs.CutRun.{Prints, PrintsMost, IsCutShort, CutRefuses, CutDecidedBy}

module _ (one_case : (s : List ℕ) → ExactlyOne (HasEncodedValue s) (HasMalformed s) (IsIncomplete s)) where
  whole-incomplete : (s : List ℕ) → HasMalformed s → ¬ IsIncomplete s
  whole-incomplete s malformed begins =
      elim (one_case s) [ inl a ↦ a.1 malformed | inr (inl b) ↦ b.2 begins | inr (inr c) ↦ c.1 malformed ]

  nothing-malformed : (s : List ℕ) → HasMalformed s → s ≢ []
  nothing-malformed s malformed none = whole-incomplete s malformed (rw none IsIncomplete.nothing)

  -- The result is Ok, an invalid format code or the end of input, as the rest requires.
  abbrev asks : {T : Type 0} → Result T Error → List ℕ → Type 0
  asks r rest = (IsOk r ↔ (rest ≡ [])) × (IsErrOf r InvalidFormatCode ↔ HasMalformed rest) × (IsErrOf r UnexpectedEof ↔ IsCutShort rest)

  asks-ok : {T : Type 0} (x : T) (rest : List ℕ) → rest ≡ [] → asks (Ok x) rest
  asks-ok x rest over = (
    ((λ h. over), (λ h. refl)),
    ((λ h. absurd (cc)), (λ h. absurd (nothing-malformed rest h over))),
    ((λ h. absurd (cc)), (λ h. absurd (h.0 over))),
  )

  asks-malformed : (T : Type 0) (rest : List ℕ) → HasMalformed rest → asks {T = T} (Err InvalidFormatCode) rest
  asks-malformed T rest malformed = (
    ((λ h. absurd (false≢true h)), (λ h. absurd (nothing-malformed rest malformed h))),
    ((λ h. malformed), (λ h. refl)),
    ((λ h. absurd (cc)), (λ h. absurd (whole-incomplete rest malformed h.1))),
  )

  asks-short : (T : Type 0) (rest : List ℕ) → IsCutShort rest → asks {T = T} (Err UnexpectedEof) rest
  asks-short T rest short = (
    ((λ h. absurd (false≢true h)), (λ h. absurd (short.0 h))),
    ((λ h. absurd (cc)), (λ h. absurd (whole-incomplete rest h short.1))),
    ((λ h. short), (λ h. refl)),
  )

-- 2 ^ 64 - 1 encoded values followed by at least one byte are at least 2 ^ 64 bytes long.
module _ (some_byte : (encoded : List ℕ) → IsEncodedValue encoded → 0 < length encoded) where
  concat-long : (encoded_values : List (List ℕ)) → AllByRecursion IsEncodedValue encoded_values → length encoded_values ≤ length (concat encoded_values)
  concat-long [] each = omega arith
  concat-long (f ∷ encoded_values) each =
      let some = some_byte f each.0 in
      let later = concat-long encoded_values each.1 in
      omega (arith, length-append f (concat encoded_values))

  some-left : (rest : List ℕ) → rest ≢ [] → 0 < length rest
  some-left [] more = absurd (more refl)
  some-left (b ∷ rest) more = omega arith

  most-long : (s : List ℕ) (w u : Option (List ℕ)) → PrintsMost s w u → 2 ^ 64 ≤ length s
  most-long s w u (encoded_values, rest, size, each, whole, more, put) =
      let long = concat-long encoded_values each in
      let left = some-left rest more in
      omega (arith, ap length whole, length-append (concat encoded_values) rest)

module _ (one_case : (s : List ℕ) → ExactlyOne (HasEncodedValue s) (HasMalformed s) (IsIncomplete s)) (one_cut : (s rest last : List ℕ) (encoded_values others : List (List ℕ)) → IsCut s encoded_values rest → IsCut s others last → (encoded_values ≡ others) × (rest ≡ last)) (some_byte : (encoded : List ℕ) → IsEncodedValue encoded → 0 < length encoded) where
  same-rest : (s : List ℕ) (w u : Option (List ℕ)) (P : List ℕ → Type 0) (encoded_values : List (List ℕ)) (rest : List ℕ) → IsCut s encoded_values rest → Prints s w u P → P rest
  same-rest s w u P encoded_values rest c (others, last, d, put, here) = subst P (one_cut s last rest others encoded_values d c).1 here

  pub run-decided : {T : Type 0} (r : Result T Error) (a w u : Option (List ℕ)) → OnOk r (IfSome a (λ s. Prints s w u (λ rest. rest ≡ []))) → IfErr r (λ e. IfSome a (λ s. CutRefuses s w u e)) → IfSome a (λ s. CutDecidedBy s r)
  run-decided r None w u ok err = tt
  run-decided (Ok x) (Some s) w u ok err = λ encoded_values rest c. inr (inr (inr (asks-ok one_case x rest (same-rest s w u (λ l. l ≡ []) encoded_values rest c ok))))
  run-decided {T} (Err InvalidFormatCode) (Some s) w u ok err = λ encoded_values rest c. inr (inr (inr (asks-malformed one_case T rest (same-rest s w u HasMalformed encoded_values rest c err))))
  run-decided {T} (Err UnexpectedEof) (Some s) w u ok err = λ encoded_values rest c. inr (inr (inr (asks-short one_case T rest (same-rest s w u IsCutShort encoded_values rest c err))))
  run-decided (Err OutOfMemory) (Some s) w u ok err = λ encoded_values rest c. inl refl
  run-decided (Err Io) (Some s) w u ok err = λ encoded_values rest c. inr (inl refl)
  run-decided (Err TooLong) (Some s) w u ok err = λ encoded_values rest c. inr (inr (inl (refl, most-long some_byte s w u err)))
  run-decided (Err InvalidValue) (Some s) w u ok err = absurd err
  run-decided (Err (Message words)) (Some s) w u ok err = absurd err
