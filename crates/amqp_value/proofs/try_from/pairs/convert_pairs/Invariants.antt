use Rattle.std.proofs.Common.{List}
use Rattle.std.specs.List.{AllZip}
use Rattle.amqp_value.specs.Converts.{PairFits}
use Rattle.amqp_value.proofs.try_from.pairs.convert_pairs.Given as goal

abbrev pub invariant-loop-key : goal.invariant-loop-key
invariant-loop-key g l =
    (done : List (g.row.K.Denot × g.row.V.Denot)) × AllZip (PairFits g.K.TryFrom.try_from_gives g.V.TryFrom.try_from_gives) l.yielded done × (g.M.Inserts.holds done l.map)
