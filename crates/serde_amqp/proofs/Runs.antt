-- A run over the encoded values of a byte string, by induction on its steps.
use Rattle.std.proofs.Common.{◌≡◌, ◌≢◌, ℕ, ◌+◌, ◌-◌, ◌^◌, ◌≤◌, ◌<◌, ◌⊎◌, inl, inr, min, List, [], ◌∷◌, ◌++◌, Option, None, Some, Result, Ok, Err, IfSome, IfErr, IsErrOf, length, take, refl, sym, ap, ◌∙◌, subst, append_assoc, length-append, arith}
use Rattle.std.specs.List.{AllByRecursion, concat}
use Rattle.std.proofs.lemmas.List.{append-nil, take-append-le, take_min}
use Rattle.std.proofs.lemmas.List.Concat.{flat_map-append}
use Rattle.std.proofs.lemmas.List.Folds.{concat-append}
use Rattle.std.proofs.lemmas.Bool.{cases_lt}
use Rattle.std.proofs.Math.Seq.{take-append-add, take-append_seam}
use Rattle.std.specs.Io.KnownBytes.{Keeps, Consumes, Appends, IsAtEnd}
use Rattle.std.proofs.KnownBytes.{Consumes-trans, Appends-trans, Appends-kept}
use Rattle.amqp_data.specs.declared.error.Error.{Error}
use Rattle.amqp_data.specs.declared.error.Error.TheVariants.{OutOfMemory, TooLong, InvalidValue, InvalidFormatCode, UnexpectedEof, Io, Message}
use Rattle.amqp_frame.specs.Cut.{IsCut}
use Rattle.amqp_frame.specs.EncodedValue.{IsEncodedValue, HasEncodedValue, HasMalformed}
use Rattle.amqp_frame.specs.Reader.{Failed}
use Rattle.amqp_frame.proofs.Taking.{failed-later}
use Rattle.serde_amqp.specs.Writer.{TakesPrefix}
use Rattle.serde_amqp.specs.CutLines.{cut_line, cut_lines}
use Rattle.serde_amqp.specs.CutRun.{Prints, PrintsPrefix, IsCutShort, CutRefuses}
use Rattle.serde_amqp.specs.CutSteps.{PrintsNext, StopsInLine, StepRefuses}

-- Exactly n encoded values were read, and their lines were written.
abbrev pub Progress : Option (List ℕ) → Option (List ℕ) → Option (List ℕ) → Option (List ℕ) → ℕ → Type 0
Progress a b w v n = (encoded_values : List (List ℕ)) × (length encoded_values ≡ n) × AllByRecursion IsEncodedValue encoded_values × Consumes a b (concat encoded_values) × Appends w v (cut_lines encoded_values)

all-append : (xs ys : List (List ℕ)) → AllByRecursion IsEncodedValue xs → AllByRecursion IsEncodedValue ys → AllByRecursion IsEncodedValue (xs ++ ys)
all-append [] ys h k = k
all-append (x ∷ xs) ys h k = (h.0, all-append xs ys h.1 k)

pub progress-step : (a b c w v u : Option (List ℕ)) (n : ℕ) → Progress a b w v n → PrintsNext b c v u → Progress a c w u (n + 1)
progress-step a b c w v u n (encoded_values, size, each, read, put) (f, h, more, line) =
    let all : concat encoded_values ++ f ≡ concat (encoded_values ++ f ∷ []) = ap (λ l. concat encoded_values ++ l) (sym (append-nil f)) ∙ sym (concat-append encoded_values (f ∷ [])) in
    let text : cut_lines encoded_values ++ cut_line f ≡ cut_lines (encoded_values ++ f ∷ []) = ap (λ l. cut_lines encoded_values ++ l) (sym (append-nil (cut_line f))) ∙ sym (flat_map-append cut_line encoded_values (f ∷ [])) in (
      encoded_values ++ f ∷ [],
      omega (arith, length-append encoded_values (f ∷ [])),
      all-append encoded_values (f ∷ []) each (h, tt),
      subst (Consumes a c) all (Consumes-trans a b c _ _ read more),
      subst (Appends w u) text (Appends-trans w v u _ _ put line),
    )

none-in-nothing : ((f : List ℕ) → IsEncodedValue f → 0 < length f) → ¬ HasEncodedValue []
none-in-nothing some_byte (f, r, h, e) =
    let some = some_byte f h in
    let len = ap length e in
    omega (arith, length-append f r)

-- The run is complete if the input ends between encoded values.
pub run-ends : ((f : List ℕ) → IsEncodedValue f → 0 < length f) → (a b w v u : Option (List ℕ)) (n : ℕ) → Progress a b w v n → IsAtEnd b → Keeps v u → IfSome a (λ s. Prints s w u (λ rest. rest ≡ []))
run-ends some_byte None b w v u n p over kept = tt
run-ends some_byte (Some s) None w v u n p over kept = absurd p.3
run-ends some_byte (Some s) (Some x) w v u n (encoded_values, size, each, read, put) over kept =
    (encoded_values, [], record { whole = read ∙ ap (λ l. concat encoded_values ++ l) over; each = each; no_encoded_value = none-in-nothing some_byte }, Appends-kept w v u _ put kept, refl)

-- All bytes have been read at that end.
pub run-reads : (a b c w v : Option (List ℕ)) (n : ℕ) → Progress a b w v n → IsAtEnd b → Keeps b c → IfSome a (λ _. IsAtEnd c)
run-reads None b c w v n p over kept = tt
run-reads (Some s) None c w v n p over kept = absurd p.3
run-reads (Some s) (Some x) None w v n p over kept = absurd kept
run-reads (Some s) (Some x) (Some y) w v n p over kept = kept ∙ over

-- A step that returns an error, on a string that has a cut.
module _ (some_cut : (s : List ℕ) → (encoded_values : List (List ℕ)) × (rest : List ℕ) × IsCut s encoded_values rest) where
  stops-between : (s t : List ℕ) (w v u : Option (List ℕ)) (n : ℕ) → Progress (Some s) (Some t) w v n → Keeps v u → PrintsPrefix s w u
  stops-between s t w v u n (encoded_values, size, each, read, put) kept =
      let more = some_cut t in
      let c = more.2 in
      let whole : s ≡ concat (encoded_values ++ more.0) ++ more.1 = read ∙ ap (λ l. concat encoded_values ++ l) c.whole ∙ sym (append_assoc (concat encoded_values) (concat more.0) more.1) ∙ ap (λ l. l ++ more.1) (sym (concat-append encoded_values more.0)) in
      let text : cut_lines encoded_values ≡ take (length (cut_lines encoded_values)) (cut_lines (encoded_values ++ more.0)) = sym (take-append_seam (cut_lines encoded_values) (cut_lines more.0)) ∙ ap (take (length (cut_lines encoded_values))) (sym (flat_map-append cut_line encoded_values more.0)) in
      (encoded_values ++ more.0, more.1, record { whole = whole; each = all-append encoded_values more.0 each c.each; no_encoded_value = c.no_encoded_value }, (length (cut_lines encoded_values), subst (Appends w u) text (Appends-kept w v u _ put kept)))

  stops-in-line : (s t : List ℕ) (w v u : Option (List ℕ)) (n : ℕ) (f r : List ℕ) → Progress (Some s) (Some t) w v n → IsEncodedValue f → t ≡ f ++ r → TakesPrefix v u (cut_line f) → PrintsPrefix s w u
  stops-in-line s t w v u n f r (encoded_values, size, each, read, put) h e (k, line) =
      let more = some_cut r in
      let c = more.2 in
      let all = f ∷ more.0 in
      let later : t ≡ concat all ++ more.1 = e ∙ ap (λ l. f ++ l) c.whole ∙ sym (append_assoc f (concat more.0) more.1) in
      let whole : s ≡ concat (encoded_values ++ all) ++ more.1 = read ∙ ap (λ l. concat encoded_values ++ l) later ∙ sym (append_assoc (concat encoded_values) (concat all) more.1) ∙ ap (λ l. l ++ more.1) (sym (concat-append encoded_values all)) in
      let own = cut_line f in
      let m = min k (length own) in
      let part : take m (own ++ cut_lines more.0) ≡ take k own = take-append-le m own (cut_lines more.0) (omega arith) ∙ take_min k own in
      let text : cut_lines encoded_values ++ take k own ≡ take (length (cut_lines encoded_values) + m) (cut_lines (encoded_values ++ all)) = ap (λ l. cut_lines encoded_values ++ l) (sym part) ∙ sym (take-append-add (cut_lines encoded_values) (cut_lines all) m) ∙ ap (take (length (cut_lines encoded_values) + m)) (sym (flat_map-append cut_line encoded_values all)) in
      (encoded_values ++ all, more.1, record { whole = whole; each = all-append encoded_values all each (h, c.each); no_encoded_value = c.no_encoded_value }, (length (cut_lines encoded_values) + m, subst (Appends w u) text (Appends-trans w v u _ _ put line)))

  stops : (s t : List ℕ) (w v u : Option (List ℕ)) (n : ℕ) → Progress (Some s) (Some t) w v n → StopsInLine t v u → PrintsPrefix s w u
  stops s t w v u n p (inl kept) = stops-between s t w v u n p kept
  stops s t w v u n p (inr (f, r, h, e, line)) = stops-in-line s t w v u n f r p h e line

  at-rest : (s t : List ℕ) (w v u : Option (List ℕ)) (n : ℕ) (P : List ℕ → Type 0) → Progress (Some s) (Some t) w v n → Keeps v u → ¬ HasEncodedValue t → P t → Prints s w u P
  at-rest s t w v u n P (encoded_values, size, each, read, put) kept over here =
      (encoded_values, t, record { whole = read; each = each; no_encoded_value = over }, Appends-kept w v u _ put kept, here)

  step-refused : (s t : List ℕ) (w v u : Option (List ℕ)) (n : ℕ) (e : Error) → Progress (Some s) (Some t) w v n → StepRefuses t v u e → CutRefuses s w u e
  step-refused s t w v u n OutOfMemory p h = stops s t w v u n p h
  step-refused s t w v u n InvalidFormatCode p h = at-rest s t w v u n HasMalformed p h.2 h.1 h.0
  step-refused s t w v u n UnexpectedEof p h = at-rest s t w v u n IsCutShort p h.2 h.1 h.0
  step-refused s t w v u n Io p h = stops s t w v u n p h
  step-refused s t w v u n TooLong p h = absurd h
  step-refused s t w v u n InvalidValue p h = h
  step-refused s t w v u n (Message words) p h = h

  pub run-refused : (a b w v u : Option (List ℕ)) (n : ℕ) (e : Error) → Progress a b w v n → IfSome b (λ t. StepRefuses t v u e) → IfSome a (λ s. CutRefuses s w u e)
  run-refused None b w v u n e p h = tt
  run-refused (Some s) None w v u n e p h = absurd p.3
  run-refused (Some s) (Some t) w v u n e p h = step-refused s t w v u n e p h

  -- After 2 ^ 64 - 1 encoded values, `TooLong` and an I/O error are errors of the run.
  at-most : (s t : List ℕ) (w v u : Option (List ℕ)) (e : Error) → Progress (Some s) (Some t) w v (2 ^ 64 - 1) → Keeps v u → (e ≡ TooLong → t ≢ []) → (e ≡ TooLong) ⊎ (e ≡ Io) → CutRefuses s w u e
  at-most s t w v u e (encoded_values, size, each, read, put) kept more (inl m) =
      rw m (encoded_values, t, size, each, read, more m, Appends-kept w v u _ put kept)
  at-most s t w v u e p kept more (inr m) = rw m (stops-between s t w v u (2 ^ 64 - 1) p kept)

  pub run-finish-refused : {T : Type 0} (r : Result T Error) (a b w v u : Option (List ℕ)) → Progress a b w v (2 ^ 64 - 1) → Keeps v u → (IsErrOf r TooLong → IfSome b (λ t. t ≢ [])) → IfErr r (λ e. (e ≡ TooLong) ⊎ (e ≡ Io)) → IfErr r (λ e. IfSome a (λ s. CutRefuses s w u e))
  run-finish-refused (Ok x) a b w v u p kept more h = tt
  run-finish-refused (Err e) None b w v u p kept more h = tt
  run-finish-refused (Err e) (Some s) None w v u p kept more h = absurd p.3
  run-finish-refused (Err e) (Some s) (Some t) w v u p kept more h = at-most s t w v u e p kept (λ m. more (ap Err m)) h

-- A failure in a later call is a failure of the complete run.
pub either-failed : (f g h k l m : ℕ) → f ≤ g → g ≤ h → k ≤ l → l ≤ m → Failed g h ⊎ Failed l m → Failed f h ⊎ Failed k m
either-failed f g h k l m fg gh kl lm (inl r) = inl (failed-later f g h fg gh r)
either-failed f g h k l m fg gh kl lm (inr r) = inr (failed-later k l m kl lm r)
