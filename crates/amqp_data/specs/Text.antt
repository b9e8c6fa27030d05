-- The text of a symbol, as its UTF-8 bytes (AMQP 1.0 part 1, section 1.6.21).
use Rattle.std.specs.Prelude.{ℕ, List, string_bytes}
use Rattle.amqp_data.specs.declared.symbol.Symbol.{Symbol}
use Rattle.amqp_data.specs.declared.symbol.SymbolRef.{SymbolRef}

-- the text of a symbol
abbrev pub symbol_text : Symbol → List ℕ
symbol_text symbol = string_bytes symbol.0

-- the text that a borrowed symbol points to
abbrev pub symbol_ref_text : SymbolRef → List ℕ
symbol_ref_text symbol = symbol.0.now
