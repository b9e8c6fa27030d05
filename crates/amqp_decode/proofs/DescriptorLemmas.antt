-- The values that are descriptors.
use Rattle.std.proofs.Common.{◌≡◌, ℕ, None, refl, ap, ◌∙◌, subst}
use Rattle.amqp_data.specs.declared.symbol.Symbol.{Symbol}
use Rattle.amqp_ser.specs.Tree.{Tree}
use Rattle.amqp_value.specs.TreeOf.{tree_of, tree_step}
use Rattle.amqp_value.specs.declared.value.Value.{Value, roll-Value, ind-Value, map-Value, fold-roll-Value}
use Rattle.amqp_value.specs.declared.value.Value.TheVariants as kind
use Rattle.amqp_value.specs.declared.value.Value.TheOpen.{Value-F}
use Rattle.amqp_decode.specs.Parsed.{tree_descriptor}

abbrev IsOther : Value → Type 0
IsOther v = ((n : ℕ) → v ≡ kind.Ulong n → ⊥) → ((s : Symbol) → v ≡ kind.Symbol s → ⊥) → tree_descriptor (tree_of v) ≡ None

abbrev Such : Type 0
Such = (v : Value) × IsOther v

abbrev plain : Such → Value
plain e = e.0

-- One level of the tree.
abbrev layer : Value-F Such → Tree
layer y = tree_step (map-Value Value Tree tree_of (map-Value Such Value plain y))

abbrev made : Value-F Such → Value
made y = roll-Value (map-Value Such Value plain y)

core : (y : Value-F Such) → ((n : ℕ) → made y ≡ kind.Ulong n → ⊥) → ((s : Symbol) → made y ≡ kind.Symbol s → ⊥) → tree_descriptor (layer y) ≡ None
unfolding roll-Value denote.Hole.Carrier.roll
core (Value-F.Ulong n) not_ulong not_symbol = absurd (not_ulong n refl)
core (Value-F.Symbol s) not_ulong not_symbol = absurd (not_symbol s refl)
core _ not_ulong not_symbol = refl

built : (y : Value-F Such) → IsOther (made y)
built y = λ not_ulong not_symbol.
    ap tree_descriptor (fold-roll-Value Tree tree_step (map-Value Such Value plain y)) ∙ core y not_ulong not_symbol

-- A value that is neither a ulong nor a symbol is not a descriptor.
pub other-value : (v : Value) → IsOther v
other-value = ind-Value IsOther (λ x y is. subst (λ z. IsOther (roll-Value z)) is (built y))
