-- The trees of the message sections (AMQP 1.0 part 3, section 3.2).
--
-- For newcomers: shows how to state the tree of a user-defined type outside of its `impl`.
use Rattle.std.specs.Prelude.{[], ◌∷◌, Option}
use Rattle.serde_amqp.specs.Tree.{Tree, code}
use Rattle.serde_amqp.specs.Words.{required_value, optional_value, basic_composite, short_composite, of_binary, of_bool, of_i32, of_map, of_string, of_u8, of_u32, of_u64}
use Rattle.examples.specs.declared.message.Header.{Header}
use Rattle.examples.specs.declared.message.Properties.{Properties}
use Rattle.examples.specs.declared.message.Section.{Section}
use Rattle.examples.specs.declared.message.Section.TheVariants as section

-- durable, priority, ttl (section 3.2.1)
abbrev pub of_header : Header → Option Tree
of_header h = short_composite (code 0x70) (optional_value of_bool h.durable ∷ optional_value of_u8 h.priority ∷ optional_value of_u32 h.ttl ∷ [])

-- message-id, user-id, to, subject (section 3.2.4)
abbrev pub of_properties : Properties → Option Tree
of_properties p = short_composite (code 0x73) (optional_value of_u64 p.message_id ∷ optional_value of_binary p.user_id ∷ optional_value of_string p.to ∷ optional_value of_string p.subject ∷ [])

-- application-properties (section 3.2.5) and amqp-value (section 3.2.8): one described value each
abbrev pub of_section : Section → Option Tree
of_section (section.Header h) = of_header h
of_section (section.Properties p) = of_properties p
of_section (section.ApplicationProperties m) = basic_composite (code 0x74) (of_map of_string of_i32 m)
of_section (section.Body s) = basic_composite (code 0x77) (of_string s)
