-- Transport frames: a header of eight bytes, an extended header, and a body (AMQP 1.0 part 2, section
-- 2.3.1).
use Rattle.std.specs.Prelude.{◌≡◌, ◌≤◌, ◌<◌, ◌*◌, ◌+◌, ◌⊎◌, ℕ, List, ◌∷◌, ◌++◌, length, Option, Some, None, Err}
use Rattle.std.specs.Int.{w16, w32, to_be_bytes}
use Rattle.amqp_data.specs.declared.error.Error.TheVariants.{OutOfMemory}
use Rattle.amqp_frame.specs.EncodedValue.{IsEncodedValue, HasEncodedValue}
use Rattle.amqp_from_value.specs.Limited.{ReadsAllowed, limits_for}
use Rattle.amqp_from_value.specs.LocatedErrors.{IsLocatedWithin, error_in}
use Rattle.amqp_from_value.specs.declared.limited.Limits.{Limits}
use Rattle.amqp_ser.specs.Encoding.{encoding}
use Rattle.amqp_ser.specs.SizeAndBytes.{AreBytesOf}
use Rattle.amqp_ser.specs.Tree.{Tree}
use Rattle.amqp_transport.specs.declared.error.FrameError.{FrameError}
use Rattle.amqp_transport.specs.declared.error.FrameError.TheVariants as error
use Rattle.amqp_transport.specs.declared.protocol.Protocol.{Protocol}
use Rattle.amqp_transport.specs.declared.protocol.Protocol.TheVariants as protocol

-- The header: the size of the frame, the data offset, the type, and the channel.
abbrev pub header_bytes : ℕ → ℕ → ℕ → ℕ → List ℕ
header_bytes size offset kind channel = to_be_bytes w32 size ++ offset ∷ kind ∷ to_be_bytes w16 channel

-- The bytes begin with a header whose size and data offset satisfy `P`.
abbrev pub Begins : (ℕ → ℕ → Type 0) → List ℕ → Type 0
Begins P s = (size offset kind channel : ℕ) × (rest : List ℕ)
    × (s ≡ header_bytes size offset kind channel ++ rest) × P size offset

-- A frame of this size and data offset has an extended header and a body of these lengths.
abbrev pub HasLengths : ℕ → ℕ → ℕ → ℕ → Type 0
HasLengths size offset extended body = (offset * 4 ≡ 8 + extended) × (size ≡ 8 + (extended + body))

-- Why the bytes do not begin with a frame of at most `limit` bytes.
abbrev pub RefusesHeader : ℕ → ℕ → ℕ → FrameError → Type 0
RefusesHeader limit size offset error.SizeTooSmall = size < 8
RefusesHeader limit size offset error.OffsetTooSmall = offset < 2
RefusesHeader limit size offset error.OffsetPastEnd = size < offset * 4
RefusesHeader limit size offset error.TooLong = limit < size
RefusesHeader limit size offset e = ⊥

abbrev pub RefusesFrame : ℕ → List ℕ → FrameError → Type 0
RefusesFrame limit s error.Incomplete = (length s < 8) ⊎ Begins (λ size _. length s < size) s
RefusesFrame limit s e = Begins (λ size offset. RefusesHeader limit size offset e) s

-- The body is a performative, which is read as x within these limits, or without any within those for
-- its length, and the payload.
abbrev pub ReadsBody : {T : Type 0} → Option Limits → (Tree → T → Type 0) → List ℕ → T → List ℕ → Type 0
ReadsBody limits R body x payload =
    (bytes : List ℕ) × (body ≡ bytes ++ payload) × IsEncodedValue bytes × ReadsAllowed R (limits_for limits bytes) bytes x

-- Why no performative is read from the body.
abbrev pub RefusesBody : {T : Type 0} → Option Limits → (Tree → T → Type 0) → List ℕ → FrameError → Type 0
RefusesBody limits R body error.NoPerformative = ¬ HasEncodedValue body
RefusesBody {T} limits R body (error.Performative e) =
    (bytes payload : List ℕ) × (body ≡ bytes ++ payload) × IsEncodedValue bytes × IsLocatedWithin (limits_for limits bytes) bytes e
    × ((error_in e ≡ OutOfMemory) ⊎ ((x : T) → ¬ ReadsAllowed R (limits_for limits bytes) bytes x))
RefusesBody limits R body e = ⊥

-- The size of a frame without an extended header, with a performative and a payload of these lengths.
abbrev pub frame_size : ℕ → ℕ → ℕ
frame_size performative payload = 8 + (performative + payload)

-- The bytes are a frame with this header, whose body is the encoding of the tree and the payload.
abbrev pub IsFrameOf : ℕ → ℕ → ℕ → Option Tree → List ℕ → List ℕ → Type 0
IsFrameOf size kind channel None payload s = ⊥
IsFrameOf size kind channel (Some t) payload s =
    s ≡ header_bytes size 2 kind channel ++ encoding t ++ payload

-- The bytes are such a frame of the right size, which is at most `limit`.
abbrev pub IsFrameWith : ℕ → ℕ → ℕ → Option Tree → List ℕ → List ℕ → Type 0
IsFrameWith limit kind channel None payload s = ⊥
IsFrameWith limit kind channel (Some t) payload s =
    IsFrameOf (frame_size (length (encoding t)) (length payload)) kind channel (Some t) payload s
    × (frame_size (length (encoding t)) (length payload) ≤ limit)

-- A frame with the encoding of the tree and a payload of this length is longer than `limit`.
abbrev pub ExceedsFrame : ℕ → Option Tree → ℕ → Type 0
ExceedsFrame limit None payload = ⊥
ExceedsFrame limit (Some t) payload = limit < frame_size (length (encoding t)) payload

-- Why no frame is written with the encoding of the tree and a payload of this length: it is longer
-- than `limit`, `to_vec` refuses the tree, or an allocation failed.
abbrev pub RefusesToWrite : ℕ → Option Tree → ℕ → FrameError → Type 0
RefusesToWrite limit t payload error.TooLong = ExceedsFrame limit t payload
RefusesToWrite limit t payload (error.Value e) = AreBytesOf t (Err e)
RefusesToWrite limit t payload e = ⊥

-- The id of a protocol (section 2.2, and part 5, sections 5.2.1 and 5.3.2).
abbrev pub protocol_id : Protocol → ℕ
protocol_id protocol.Amqp = 0
protocol_id protocol.Tls = 2
protocol_id protocol.Sasl = 3

-- A protocol header: `AMQP` in ASCII, the id of the protocol, and the version.
abbrev pub protocol_bytes : Protocol → List ℕ → List ℕ
protocol_bytes p version = 65 ∷ 77 ∷ 81 ∷ 80 ∷ protocol_id p ∷ version
