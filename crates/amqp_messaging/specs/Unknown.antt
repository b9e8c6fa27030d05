-- Described values whose descriptor the standard does not have (AMQP 1.0 part 1, section 1.1.2).
use Rattle.std.specs.Prelude.{◌≡◌, ℕ}
use Rattle.amqp_data.specs.declared.descriptor.Descriptor.{Descriptor}
use Rattle.amqp_data.specs.declared.descriptor.Descriptor.TheVariants as descriptor

-- The code of a descriptor; 0 for a name.
abbrev pub code_of : Descriptor → ℕ
code_of (descriptor.Code n) = n
code_of (descriptor.Name s) = 0

-- The descriptor is a code.
abbrev pub IsCode : Descriptor → Type 0
IsCode (descriptor.Code n) = Unit {0}
IsCode (descriptor.Name s) = ⊥
