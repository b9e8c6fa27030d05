use Rattle.std.specs.List.{AllZip}
use Rattle.amqp_value.proofs.from.containers.convert_items.Given as goal

abbrev pub invariant-loop-item : goal.invariant-loop-item
invariant-loop-item g l = AllZip g.T.Into.converts l.yielded l.values.items
