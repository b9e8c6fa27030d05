-- `==` of values.
use Rattle.std.specs.Prelude.{Bool}
use Rattle.amqp_value.specs.contracts.value.ValuePartialEq.TheImpl as eq
use Rattle.amqp_value.specs.declared.value.Value.{Value}

abbrev pub equal : Value → Value → Bool
equal a b = eq.ghosts.eq a b
