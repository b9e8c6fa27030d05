use Rattle.std.specs.List.{AllZip}
use Rattle.amqp_value.specs.Converts.{Fits}
use Rattle.amqp_value.proofs.try_from.lists.convert_items.Given as goal

abbrev pub invariant-loop-item : goal.invariant-loop-item
invariant-loop-item g l = AllZip (Fits g.T.TryFrom.try_from_gives) l.yielded l.converted.items
