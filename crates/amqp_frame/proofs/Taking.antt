-- Sequences of calls of a reader.
use Rattle.std.proofs.Common.{◌≡◌, ℕ, ◌+◌, ◌<◌, ◌≤◌, inl, inr, List, [], ◌++◌, Option, None, Some, Result, Ok, Err, IfErr, OnOk, IfSome, length, ◌-◌, take, drop, ap, ◌∙◌, arith, length-append, append_assoc, append-nil, sym}
use Rattle.std.specs.Io.KnownBytes.{Consumes}
use Rattle.std.proofs.KnownBytes.{Consumes-nil, Consumes-trans}
use Rattle.std.proofs.lemmas.Bool.{cases_lt}
use Rattle.std.proofs.Math.Seq.{drop-append_seam}
use Rattle.amqp_frame.proofs.Primitive.{rest-is}
use Rattle.amqp_data.specs.declared.error.Error.{Error}
use Rattle.amqp_data.specs.declared.error.Error.TheVariants.{OutOfMemory, TooLong, InvalidValue, InvalidFormatCode, UnexpectedEof, Io, Message}
use Rattle.amqp_frame.specs.declared.code.Category.{Category}
use Rattle.amqp_frame.specs.declared.code.Category.TheVariants.{Fixed}
use Rattle.amqp_frame.specs.Code.{size_width, body_len, payload_len}
use Rattle.amqp_frame.specs.Reader.{Failed, RunsOut}
use Rattle.amqp_frame.specs.Taking.{RefusesEncodedValue, LimitedRefuses, Moves, PassesLimit}
use Rattle.amqp_frame.proofs.FirstEncodedValue.{body_len-prefix}

-- a failure in a later call is a failure of the sequence
pub failed-later : (f g h : ℕ) → f ≤ g → g ≤ h → Failed g h → Failed f h
failed-later f g h fg gh (inl rose) = inl (omega arith)
failed-later f g h fg gh (inr last) =
    elim (cases_lt f g) [ inl below ↦ inl (omega arith) | inr over ↦ inr (omega arith) ]

-- an error of a later call is an error of the sequence, whose earlier calls consumed bytes
pub refuses-later : (a b c : Option (List ℕ)) (f g h : ℕ) (taken : List ℕ) {E E' C C' : Type 0} → Consumes a b taken
    → f ≤ g → g ≤ h → (E → E') → (C → C') → (e : Error) → RefusesEncodedValue b c g h E C e → RefusesEncodedValue a c f h E' C' e
refuses-later a b c f g h taken t fg gh at_end at_code OutOfMemory (more, r) =
    (taken ++ more, Consumes-trans a b c taken more t r)
refuses-later a b c f g h taken t fg gh at_end at_code TooLong r = r
refuses-later a b c f g h taken t fg gh at_end at_code InvalidValue r = r
refuses-later a b c f g h taken t fg gh at_end at_code InvalidFormatCode r = at_code r
refuses-later a b c f g h taken t fg gh at_end at_code UnexpectedEof r = at_end r
refuses-later a b c f g h taken t fg gh at_end at_code Io ((more, r), fails) =
    ((taken ++ more, Consumes-trans a b c taken more t r), failed-later f g h fg gh fails)
refuses-later a b c f g h taken t fg gh at_end at_code (Message words) r = r

-- the same for a sequence with a limit
pub limited-after : (L : Type 0) (a b c : Option (List ℕ)) (f g h : ℕ) (taken : List ℕ) {E E' C C' : Type 0} → Consumes a b taken
    → f ≤ g → g ≤ h → (E → E') → (C → C') → (e : Error) → RefusesEncodedValue b c g h E C e → LimitedRefuses L a c f h E' C' e
limited-after L a b c f g h taken t fg gh at_end at_code OutOfMemory r =
    refuses-later a b c f g h taken t fg gh at_end at_code OutOfMemory r
limited-after L a b c f g h taken t fg gh at_end at_code TooLong r = absurd r
limited-after L a b c f g h taken t fg gh at_end at_code InvalidValue r = r
limited-after L a b c f g h taken t fg gh at_end at_code InvalidFormatCode r = at_code r
limited-after L a b c f g h taken t fg gh at_end at_code UnexpectedEof r = at_end r
limited-after L a b c f g h taken t fg gh at_end at_code Io r =
    refuses-later a b c f g h taken t fg gh at_end at_code Io r
limited-after L a b c f g h taken t fg gh at_end at_code (Message words) r = r

-- and for a later call with a limit
pub limited-later : (L M : Type 0) (a b c : Option (List ℕ)) (f g h : ℕ) (taken : List ℕ) {E E' C C' : Type 0} → Consumes a b taken
    → f ≤ g → g ≤ h → (M → L) → (E → E') → (C → C') → (e : Error) → LimitedRefuses M b c g h E C e
    → LimitedRefuses L a c f h E' C' e
limited-later L M a b c f g h taken t fg gh at_limit at_end at_code OutOfMemory r =
    refuses-later a b c f g h taken t fg gh at_end at_code OutOfMemory r
limited-later L M a b c f g h taken t fg gh at_limit at_end at_code TooLong r = at_limit r
limited-later L M a b c f g h taken t fg gh at_limit at_end at_code InvalidValue r = r
limited-later L M a b c f g h taken t fg gh at_limit at_end at_code InvalidFormatCode r = at_code r
limited-later L M a b c f g h taken t fg gh at_limit at_end at_code UnexpectedEof r = at_end r
limited-later L M a b c f g h taken t fg gh at_limit at_end at_code Io r =
    refuses-later a b c f g h taken t fg gh at_end at_code Io r
limited-later L M a b c f g h taken t fg gh at_limit at_end at_code (Message words) r = r

pub limited-last : {T : Type 0} (r : Result T Error) (L : Type 0) (a b c : Option (List ℕ)) (f g h : ℕ)
    (taken : List ℕ) {E E' C C' : Type 0} → Consumes a b taken → f ≤ g → g ≤ h → (E → E') → (C → C')
    → IfErr r (RefusesEncodedValue b c g h E C) → IfErr r (LimitedRefuses L a c f h E' C')
limited-last (Ok x) L a b c f g h taken t fg gh at_end at_code r = tt
limited-last (Err e) L a b c f g h taken t fg gh at_end at_code r =
    limited-after L a b c f g h taken t fg gh at_end at_code e r

pub runs-out-later : (a b c : Option (List ℕ)) (bytes : List ℕ) (n m : ℕ) → Consumes a b bytes → length bytes + n ≤ m
    → RunsOut b c n → RunsOut a c m
runs-out-later None b c bytes n m t le r = tt
runs-out-later (Some s) None c bytes n m t le r = absurd t
runs-out-later (Some s) (Some x) c bytes n m t le r = (omega (arith, ap length t, length-append bytes x, r.0), r.1)

-- fewer bytes remained than the payload has, and all of them were consumed
abbrev pub FallsShort : Category → Option (List ℕ) → Option (List ℕ) → Type 0
FallsShort k old new = IfSome old (λ s. (length s < payload_len k s) × (new ≡ Some []))

pub falls-short-head : (k : Category) (a b : Option (List ℕ)) (n : ℕ) → n ≡ size_width k → RunsOut a b n
    → FallsShort k a b
falls-short-head k None b n e r = tt
falls-short-head k (Some s) b n e r = (omega (arith, r.0), r.1)

pub falls-short-body : (k : Category) (a b c : Option (List ℕ)) (head : List ℕ) (n : ℕ) → Consumes a b head
    → length head ≡ size_width k → n ≡ body_len k head → RunsOut b c n → FallsShort k a c
falls-short-body k None b c head n t len e r = tt
falls-short-body k (Some s) None c head n t len e r = absurd t
falls-short-body k (Some s) (Some x) c head n t len e r =
    let size : length s ≡ length head + length x = ap length t ∙ length-append head x in
    let told : body_len k s ≡ body_len k head = ap (body_len k) t ∙ body_len-prefix k head x (omega arith) in
    (omega (arith, r.0), r.1)

-- the payload passes the limit after its size was read
pub passes-body : (k : Category) (limit held n : ℕ) (a b : Option (List ℕ)) (head : List ℕ) → Consumes a b head
    → length head ≡ size_width k → n ≡ body_len k head → held + length head ≤ limit → limit < held + length head + n
    → PassesLimit limit held k a b
passes-body k limit held n None b head t len e within past = (head, t, within, tt)
passes-body k limit held n (Some s) None head t len e within past = absurd t
passes-body k limit held n (Some s) (Some x) head t len e within past =
    let told : body_len k s ≡ body_len k head = ap (body_len k) t ∙ body_len-prefix k head x (omega arith) in
    (head, t, within, omega arith)

pub moves-payload : {T : Type 0} (r : Result T Error) (k : Category) (a b c : Option (List ℕ))
    (before mid after head : List ℕ) (n : ℕ) → Consumes a b head → mid ≡ before ++ head → length head ≡ size_width k
    → n ≡ body_len k head → OnOk r (Moves b c mid after (λ bytes. length bytes ≡ n))
    → OnOk r (Moves a c before after (λ bytes. length bytes ≡ payload_len k bytes))
moves-payload (Ok x) k a b c before mid after head n t m len e (body, u, v, size) =
    let told : body_len k (head ++ body) ≡ body_len k head = body_len-prefix k head body (omega arith) in
    let whole : after ≡ before ++ (head ++ body) = v ∙ ap (λ l. l ++ body) m ∙ append_assoc before head body in
    (head ++ body, Consumes-trans a b c head body t u, whole, omega (arith, length-append head body))
moves-payload (Err d) k a b c before mid after head n t m len e h = tt

-- a payload of a fixed width of 0 is no bytes
pub moves-none : {T : Type 0} (r : Result T Error) (k : Category) (a : Option (List ℕ)) (before after : List ℕ)
    → k ≡ Fixed 0 → OnOk r (after ≡ before) → OnOk r (Moves a a before after (λ bytes. length bytes ≡ payload_len k bytes))
unfolding size_width body_len
moves-none (Ok x) k a before after fixed same =
    ([], Consumes-nil a, same ∙ sym (append-nil before), rw fixed (λ i. 0))
moves-none (Err d) k a before after fixed same = tt

-- the bytes that follow `before`
pub behind : (before head now : List ℕ) (at : ℕ) → now ≡ before ++ head → at ≡ length before
    → take (length now - at) (drop at now) ≡ head
behind before head now at e is = rest-is now at ∙ (rw (is, e) (drop-append_seam before head))
