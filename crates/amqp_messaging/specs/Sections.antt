-- The sections of a message, and their order (AMQP 1.0 part 3, section 3.2).
use Rattle.std.specs.Prelude.{◌≡◌, ◌≤◌, ◌<◌, ◌⊎◌, ℕ, Bool, true, false, nat_eq, ◌||◌, List, [], ◌∷◌, ◌++◌, length, Option, Some, None, IfSome, codes}
use Rattle.std.specs.List.{starts_with}
use Rattle.amqp_frame.specs.EncodedValue.{IsEncodedValue, HasEncodedValue}
use Rattle.amqp_messaging.specs.declared.message.error.MessageError.{MessageError}
use Rattle.amqp_messaging.specs.declared.message.error.MessageError.TheVariants as error
use Rattle.amqp_messaging.specs.declared.message.kind.SectionKind.{SectionKind}
use Rattle.amqp_messaging.specs.declared.message.kind.SectionKind.TheVariants as kind

-- The code of the descriptor.
abbrev pub section_code : SectionKind → ℕ
section_code kind.Header = 0x70
section_code kind.DeliveryAnnotations = 0x71
section_code kind.MessageAnnotations = 0x72
section_code kind.Properties = 0x73
section_code kind.ApplicationProperties = 0x74
section_code kind.Data = 0x75
section_code kind.AmqpSequence = 0x76
section_code kind.AmqpValue = 0x77
section_code kind.Footer = 0x78

-- The symbol that is a descriptor too.
abbrev pub section_name : SectionKind → List ℕ
section_name kind.Header = codes "amqp:header:list"
section_name kind.DeliveryAnnotations = codes "amqp:delivery-annotations:map"
section_name kind.MessageAnnotations = codes "amqp:message-annotations:map"
section_name kind.Properties = codes "amqp:properties:list"
section_name kind.ApplicationProperties = codes "amqp:application-properties:map"
section_name kind.Data = codes "amqp:data:binary"
section_name kind.AmqpSequence = codes "amqp:amqp-sequence:list"
section_name kind.AmqpValue = codes "amqp:amqp-value:*"
section_name kind.Footer = codes "amqp:footer:map"

-- Whether the bytes begin with the descriptor of a section of this kind: its code in one or eight
-- bytes, or its name with a length of one or four bytes.
unfoldable pub selects : SectionKind → List ℕ → Bool
selects k s =
    starts_with nat_eq s (0 ∷ 0x53 ∷ section_code k ∷ [])
    || (starts_with nat_eq s (0 ∷ 0x80 ∷ 0 ∷ 0 ∷ 0 ∷ 0 ∷ 0 ∷ 0 ∷ 0 ∷ section_code k ∷ [])
    || (starts_with nat_eq s (0 ∷ 0xa3 ∷ length (section_name k) ∷ section_name k)
    || starts_with nat_eq s (0 ∷ 0xb3 ∷ 0 ∷ 0 ∷ 0 ∷ length (section_name k) ∷ section_name k)))

-- The bytes are an encoded section of this kind.
abbrev pub IsSection : SectionKind → List ℕ → Type 0
IsSection k s = IsEncodedValue s × (selects k s ≡ true)

-- The place of a kind in a message. The three kinds of a body have one.
abbrev pub place : SectionKind → ℕ
place kind.Header = 0
place kind.DeliveryAnnotations = 1
place kind.MessageAnnotations = 2
place kind.Properties = 3
place kind.ApplicationProperties = 4
place kind.Data = 5
place kind.AmqpSequence = 5
place kind.AmqpValue = 5
place kind.Footer = 6

-- A body can have several sections of this kind.
abbrev pub may_repeat : SectionKind → Bool
may_repeat kind.Data = true
may_repeat kind.AmqpSequence = true
may_repeat k = false

-- A section of this kind can follow one of the last kind, or begin a message.
abbrev pub Follows : Option SectionKind → SectionKind → Type 0
Follows None k = Unit {0}
Follows (Some last) k = (place last < place k) ⊎ ((last ≡ k) × (may_repeat k ≡ true))

-- The bytes begin with a section of this kind.
abbrev pub BeginsSection : SectionKind → List ℕ → Type 0
BeginsSection k s = (bytes rest : List ℕ) × IsSection k bytes × (s ≡ bytes ++ rest)

-- Why a section of this kind cannot follow one of the last kind.
abbrev pub Misplaced : MessageError → SectionKind → SectionKind → Type 0
Misplaced error.OutOfOrder last k = place k < place last
Misplaced error.Repeated last k = (last ≡ k) × (may_repeat k ≡ false)
Misplaced error.MixedBody last k = (place k ≡ 5) × (place last ≡ 5) × ¬ (last ≡ k)
Misplaced e last k = ⊥

-- Why the bytes do not begin with a section.
abbrev pub RefusesFirst : List ℕ → MessageError → Type 0
RefusesFirst s error.Malformed = ¬ HasEncodedValue s
RefusesFirst s error.UnknownSection =
    (bytes rest : List ℕ) × IsEncodedValue bytes × (s ≡ bytes ++ rest) × ((k : SectionKind) → selects k bytes ≡ false)
RefusesFirst s e = ⊥

-- Why the bytes do not begin with a section that can follow one of the last kind.
abbrev pub RefusesSection : Option SectionKind → List ℕ → MessageError → Type 0
RefusesSection last s e =
    RefusesFirst s e ⊎ ((k : SectionKind) × BeginsSection k s × IfSome last (λ l. Misplaced e l k))

-- The bytes are sections in the order of a message, after one of the last kind.
pub data AreSections : Option SectionKind → List ℕ → Type 0 where
  end : (last : Option SectionKind) → AreSections last []
  section : (last : Option SectionKind) (k : SectionKind) (bytes rest : List ℕ) → IsSection k bytes → Follows last k
      → AreSections (Some k) rest → AreSections last (bytes ++ rest)

-- Why the bytes are no sections in the order of a message, after one of the last kind: the first
-- section that is not one, or cannot follow.
pub data RefusesSections : Option SectionKind → List ℕ → MessageError → Type 0 where
  here : (last : Option SectionKind) (s : List ℕ) (e : MessageError) → RefusesSection last s e → RefusesSections last s e
  later : (last : Option SectionKind) (k : SectionKind) (bytes rest : List ℕ) (e : MessageError) → IsSection k bytes
      → Follows last k → RefusesSections (Some k) rest e → RefusesSections last (bytes ++ rest) e
