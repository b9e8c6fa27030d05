-- The errors of one step of a run.
use Rattle.std.proofs.Common.{◌≡◌, ◌≢◌, ℕ, ◌⊎◌, inl, inr, true, false, is_some, slice_get, List, [], Option, None, Some, Err, IfSome, sym, ap, ◌∙◌, subst}
use Rattle.std.specs.Io.KnownBytes.{Keeps, Consumes}
use Rattle.std.proofs.lemmas.Bool.{false≢true}
use Rattle.std.proofs.KnownBytes.{Keeps-refl}
use Rattle.amqp_data.specs.declared.error.Error.{Error}
use Rattle.amqp_data.specs.declared.error.Error.TheVariants.{OutOfMemory, TooLong, InvalidValue, InvalidFormatCode, UnexpectedEof, Io, Message}
use Rattle.amqp_frame.specs.EncodedValue.{IsEncodedValue, HasEncodedValue}
use Rattle.amqp_frame.specs.Taking.{TakesIncomplete, TakesMalformed, RefusesEncodedValue, DecidedBy}
use Rattle.serde_amqp.specs.Writer.{TakesPrefix}
use Rattle.serde_amqp.specs.CutLines.{cut_line}
use Rattle.serde_amqp.specs.CutSteps.{StopsInLine, StepRefuses}

no-encoded : (T : Type 0) (s : List ℕ) (e : Error) → e ≢ OutOfMemory → e ≢ Io → DecidedBy {T = T} s (Err e) → ¬ HasEncodedValue s
no-encoded T s e not_memory not_io (inl m) h = absurd (not_memory cc)
no-encoded T s e not_memory not_io (inr (inl m)) h = absurd (not_io cc)
no-encoded T s e not_memory not_io (inr (inr d)) h = false≢true (d.0.1 h)

some-byte : (s : List ℕ) (o : Option ℕ) → is_some o ≡ true → o ≡ slice_get s 0 → s ≢ []
some-byte s o some first none =
    let gone : o ≡ None = first ∙ ap (λ l. slice_get l 0) none in
    let no : false ≡ true = sym (ap is_some gone) ∙ some in
    false≢true no

encoded-refused-at : (T : Type 0) (s : List ℕ) (c : Option (List ℕ)) (f g : ℕ) (w : Option (List ℕ)) (e : Error) → s ≢ [] → DecidedBy {T = T} s (Err e) → RefusesEncodedValue (Some s) c f g (TakesIncomplete (Some s) c) (TakesMalformed (Some s) c) e → StepRefuses s w w e
encoded-refused-at T s c f g w OutOfMemory some d h = inl (Keeps-refl w)
encoded-refused-at T s None f g w InvalidFormatCode some d h = absurd h.2
encoded-refused-at T s (Some x) f g w InvalidFormatCode some d h =
    ((h.0, x, h.1, h.2), no-encoded T s InvalidFormatCode (λ k. cc) (λ k. cc) d, Keeps-refl w)
encoded-refused-at T s c f g w UnexpectedEof some d h =
    ((some, h.0), no-encoded T s UnexpectedEof (λ k. cc) (λ k. cc) d, Keeps-refl w)
encoded-refused-at T s c f g w Io some d h = inl (Keeps-refl w)
encoded-refused-at T s c f g w TooLong some d h = h
encoded-refused-at T s c f g w InvalidValue some d h = h
encoded-refused-at T s c f g w (Message words) some d h = h

-- An error of reading an encoded value, after a first byte was seen, is an error of the step.
pub encoded-refused : (T : Type 0) (a b c : Option (List ℕ)) (f g : ℕ) (w : Option (List ℕ)) (o : Option ℕ) (e : Error) → is_some o ≡ true → IfSome a (λ s. o ≡ slice_get s 0) → Keeps a b → IfSome b (λ s. DecidedBy {T = T} s (Err e)) → RefusesEncodedValue b c f g (TakesIncomplete b c) (TakesMalformed b c) e → IfSome a (λ s. StepRefuses s w w e)
encoded-refused T None b c f g w o e some first kept d h = tt
encoded-refused T (Some s) None c f g w o e some first kept d h = absurd kept
encoded-refused T (Some s) (Some t) c f g w o e some first kept d h =
    let P : List ℕ → Type 0 = λ l. StepRefuses l w w e in
    subst P kept (encoded-refused-at T t c f g w e (λ none. some-byte s o some first (sym kept ∙ none)) d h)

-- An error of writing the line of an encoded value is an error of the step.
pub put-refused : (a b c w v : Option (List ℕ)) (encoded line : List ℕ) (e : Error) → Keeps a b → IsEncodedValue encoded → Consumes b c encoded → line ≡ cut_line encoded → TakesPrefix w v line → (e ≡ OutOfMemory) ⊎ (e ≡ Io) → IfSome a (λ s. StepRefuses s w v e)
put-refused None b c w v encoded line e kept h t is put why = tt
put-refused (Some s) None c w v encoded line e kept h t is put why = absurd kept
put-refused (Some s) (Some x) None w v encoded line e kept h t is put why = absurd t
put-refused (Some s) (Some x) (Some y) w v encoded line e kept h t is put why =
    let stops : StopsInLine s w v = inr (encoded, y, h, sym kept ∙ t, rw is at put) in
    elim why [ inl m ↦ rw m stops | inr m ↦ rw m stops ]
