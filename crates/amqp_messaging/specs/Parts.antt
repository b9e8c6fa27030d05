-- The parts of an encoded message (AMQP 1.0 part 3, section 3.2).
use Rattle.std.specs.Prelude.{◌≡◌, ◌<◌, ◌⊎◌, ℕ, List, [], ◌++◌, length, Option, None}
use Rattle.amqp_messaging.specs.Sections.{AreSections, IsSection, RefusesSections}
use Rattle.amqp_messaging.specs.declared.message.error.MessageError.{MessageError}
use Rattle.amqp_messaging.specs.declared.message.error.MessageError.TheVariants as error
use Rattle.amqp_messaging.specs.declared.message.kind.SectionKind.{SectionKind}
use Rattle.amqp_messaging.specs.declared.message.kind.SectionKind.TheVariants as kind

-- The bytes are a section of this kind, or there is none.
abbrev pub IsPart : SectionKind → List ℕ → Type 0
IsPart k s = (s ≡ []) ⊎ IsSection k s

-- The bytes are sections of this kind, one after another.
pub data AreAll : SectionKind → List ℕ → Type 0 where
  none : (k : SectionKind) → AreAll k []
  more : (k : SectionKind) (s bytes : List ℕ) → AreAll k s → IsSection k bytes → AreAll k (s ++ bytes)

-- The bytes are a body: one value, or one or more sections of bytes or of lists.
abbrev pub IsBody : SectionKind → List ℕ → Type 0
IsBody kind.Data s = AreAll kind.Data s × (0 < length s)
IsBody kind.AmqpSequence s = AreAll kind.AmqpSequence s × (0 < length s)
IsBody kind.AmqpValue s = IsSection kind.AmqpValue s
IsBody k s = ⊥

-- The bytes are a bare message: its properties, the application's, and a body of this kind.
abbrev pub IsBare : SectionKind → List ℕ → List ℕ → List ℕ → List ℕ → Type 0
IsBare k properties application body s =
    (s ≡ properties ++ (application ++ body)) × IsPart kind.Properties properties
    × IsPart kind.ApplicationProperties application × IsBody k body

-- The bytes are a message around this bare message.
abbrev pub IsAround : List ℕ → List ℕ → List ℕ → List ℕ → List ℕ → List ℕ → Type 0
IsAround header delivery message bare footer s =
    (s ≡ header ++ (delivery ++ (message ++ (bare ++ footer)))) × IsPart kind.Header header
    × IsPart kind.DeliveryAnnotations delivery × IsPart kind.MessageAnnotations message × IsPart kind.Footer footer

-- Why the bytes are no message: the first section that is none or cannot be there, or no body.
abbrev pub RefusesParts : List ℕ → MessageError → Type 0
RefusesParts s e = RefusesSections None s e ⊎ ((e ≡ error.NoBody) × AreSections None s)
