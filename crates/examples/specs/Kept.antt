-- The messages that a subscriber takes.
--
-- For newcomers: shows a definition that a contract refers to (`has_at_least` in `src/filter.rt`).
use Rattle.std.specs.Prelude.{ℤ, Bool, false, Option, Some, None}
use Rattle.std.specs.Ordering.{is_ge}
use Rattle.serde_amqp.specs.Value.{Value}
use Rattle.serde_amqp.specs.Value.TheVariants.{Long}
use Rattle.amqp_value.specs.contracts.value.ValueOrd.TheImpl as order

-- the property is present and at least the wanted value, in the order of `Value`
abbrev pub is_kept : Value → Option ℤ → Bool
is_kept wanted None = false
is_kept wanted (Some number) = is_ge (order.ghosts.cmp (Long number) wanted)
