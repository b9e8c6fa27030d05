use Rattle.std.specs.List.{AllZip}
use Rattle.amqp_value.specs.Converts.{PairConverts}
use Rattle.amqp_value.proofs.value.Value.try_from_ordered_map.Given as goal

abbrev pub invariant-loop-key : goal.invariant-loop-key
invariant-loop-key g l = AllZip (PairConverts g.K.Into.converts g.V.Into.converts) l.yielded l.pairs.items
