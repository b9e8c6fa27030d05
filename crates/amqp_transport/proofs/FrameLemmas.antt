-- Frames that are written, and frames that are taken off a reader: their bytes and their size (AMQP
-- 1.0 part 2, section 2.3.1).
use Rattle.std.specs.Prelude.{◌≡◌, ◌≤◌, ◌<◌, ◌+◌, ◌++◌, [], ◌∷◌, ℕ, List, Option, Some, None, IfSome, Ok, Err, length, take, slice_get, is_none, true}
use Rattle.std.proofs.Common.{subst, refl, sym, ap, ◌∙◌, take_all, append_assoc, length-append, arith}
use Rattle.std.specs.Io.KnownBytes.{IsAtEnd}
use Rattle.amqp_frame.specs.Taking.{Moves}
use Rattle.amqp_ser.specs.Encoding.{encoding}
use Rattle.amqp_data.specs.declared.error.Error.{Error}
use Rattle.amqp_data.specs.declared.error.Error.TheVariants as error
use Rattle.amqp_data.specs.declared.error.Error.TheVariants.{OutOfMemory}
use Rattle.amqp_ser.specs.SizeAndBytes.{AreBytesOf, IsSizeOf}
use Rattle.amqp_ser.specs.Tree.{Tree}
use Rattle.amqp_wire.specs.Encoded.{IsWritten}
use Rattle.amqp_transport.specs.Frames.{header_bytes, frame_size, Begins, ExceedsFrame, IsFrameOf, IsFrameWith, RefusesToWrite}
use Rattle.amqp_transport.specs.declared.error.FrameError.{FrameError}
use Rattle.amqp_transport.specs.declared.error.FrameError.TheVariants as frame_error

-- The bytes of the header, of a tree and of a payload, as many as the header says, are a frame.
pub frame_of_bytes : (o : Option Tree) (head mid payload s : List ℕ) (size kind channel limit : ℕ) →
    IsWritten o head mid → head ≡ header_bytes size 2 kind channel → s ≡ mid ++ payload →
    length s ≡ size → size ≤ limit → IsFrameWith limit kind channel o payload s
frame_of_bytes None head mid payload s size kind channel limit w h e n l = w
frame_of_bytes (Some t) head mid payload s size kind channel limit w h e n l =
    let front : mid ≡ header_bytes size 2 kind channel ++ encoding t = w.1 ∙ ap (λ b. b ++ encoding t) h in
    let is : s ≡ header_bytes size 2 kind channel ++ encoding t ++ payload = e ∙ (ap (λ b. b ++ payload) front ∙ append_assoc (header_bytes size 2 kind channel) (encoding t) payload) in
    let sum : size ≡ frame_size (length (encoding t)) (length payload) = omega (arith, n, ap length is, length-append (encoding t) payload) in
    subst (λ m. IsFrameOf m kind channel (Some t) payload s × (m ≤ limit)) sum (is, l)

-- A header, and as many bytes after it as it says, are a frame.
pub whole_frame : (b c d : Option (List ℕ)) (none head mid all : List ℕ) (size offset kind channel m limit : ℕ)
    → none ≡ [] → Moves b c none mid (λ bytes. length bytes ≡ 8) → head ≡ take 8 mid
    → head ≡ header_bytes size offset kind channel → Moves c d mid all (λ bytes. length bytes ≡ m)
    → size ≡ 8 + m → size ≤ limit → Begins (λ n _. (length all ≡ n) × (n ≤ limit)) all
whole_frame b c d none head mid all size offset kind channel m limit e (first, s, are, eight) h is (body, t, more, len) sum within =
    let front : mid ≡ first = are ∙ ap (λ l. l ++ first) e in
    let long : length mid ≡ 8 = ap length front ∙ eight in
    let same : mid ≡ header_bytes size offset kind channel = sym (take_all 8 mid (omega arith)) ∙ sym h ∙ is in
    let joined : all ≡ header_bytes size offset kind channel ++ body = more ∙ ap (λ l. l ++ body) same in
    let whole : length all ≡ size = omega (arith, ap length more, length-append mid body) in
    (size, offset, kind, channel, body, joined, (whole, within))

-- A size that is counted from the length of the tree's encoding exceeds the limit.
exceeds_limit : (o : Option Tree) (n limit payload : ℕ) → IsSizeOf o (Ok n) → limit < frame_size n payload → ExceedsFrame limit o payload
exceeds_limit None n limit payload h l = h
exceeds_limit (Some t) n limit payload h l = subst (λ m. limit < frame_size m payload) h.1 l

-- Why a frame is not written.
module _ (o : Option Tree) (limit payload : ℕ) where
  pub frame_refused : (n : ℕ) (e : FrameError) → IsSizeOf o (Ok n) → e ≡ frame_error.TooLong → limit < frame_size n payload
      → RefusesToWrite limit o payload e
  frame_refused n e h is l = subst (RefusesToWrite limit o payload) (sym is) (exceeds_limit o n limit payload h l)

  pub memory_refused : RefusesToWrite limit o payload (frame_error.Value OutOfMemory)
  memory_refused = no_memory o
    where
      no_memory : (t : Option Tree) → AreBytesOf t (Err OutOfMemory)
      no_memory None = tt
      no_memory (Some t) = tt

  pub tree_refused : (e : Error) → IsSizeOf o (Err e) → RefusesToWrite limit o payload (frame_error.Value e)
  tree_refused e h = same o e h
    where
      same : (t : Option Tree) (f : Error) → IsSizeOf t (Err f) → AreBytesOf t (Err f)
      same None error.OutOfMemory h = absurd h
      same None error.TooLong h = h
      same None error.InvalidValue h = h
      same None error.InvalidFormatCode h = absurd h
      same None error.UnexpectedEof h = absurd h
      same None error.Io h = absurd h
      same None (error.Message words) h = absurd h
      same (Some t) error.OutOfMemory h = absurd h
      same (Some t) error.TooLong h = h
      same (Some t) error.InvalidValue h = h
      same (Some t) error.InvalidFormatCode h = absurd h
      same (Some t) error.UnexpectedEof h = absurd h
      same (Some t) error.Io h = absurd h
      same (Some t) (error.Message words) h = absurd h

-- A reader without a next byte is at its end.
pub at_end : (left : Option (List ℕ)) (byte : Option ℕ) → IfSome left (λ s. byte ≡ slice_get s 0) → is_none byte ≡ true → IsAtEnd left
at_end None byte h none = tt
at_end (Some []) byte h none = refl
at_end (Some (x ∷ xs)) None h none = absurd cc
at_end (Some (x ∷ xs)) (Some y) h none = absurd cc
