-- The name or the code of a descriptor (AMQP 1.0 part 1, section 1.5).
use Rattle.std.specs.Prelude.{ℕ, List, Option, Some, None}
use Rattle.amqp_data.specs.Text.{symbol_text}
use Rattle.amqp_data.specs.declared.descriptor.Descriptor.{Descriptor}
use Rattle.amqp_data.specs.declared.descriptor.Descriptor.TheVariants.{Name, Code}

-- the text of the name, if the descriptor is one
abbrev pub name_in : Descriptor → Option (List ℕ)
name_in (Name symbol) = Some (symbol_text symbol)
name_in (Code code) = None

-- the code, if the descriptor is one
abbrev pub code_in : Descriptor → Option ℕ
code_in (Name symbol) = None
code_in (Code code) = Some code
