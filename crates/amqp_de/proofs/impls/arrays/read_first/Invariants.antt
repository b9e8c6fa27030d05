use Rattle.std.proofs.Common.{◌≡◌, ◌≤◌, List, ◌++◌, length}
use Rattle.std.specs.List.{AllZip}
use Rattle.amqp_ser.specs.Tree.{Tree}
use Rattle.amqp_de.specs.Results.{ReadsAndRestores}
use Rattle.amqp_de.proofs.impls.arrays.read_first.Given as goal

abbrev pub invariant-elements : goal.invariant-elements
invariant-elements g l =
    (length l.values.items ≤ l.fn.count) × ((done : List Tree) × AllZip (ReadsAndRestores g.T.Deserialize.reads g.T.Deserialize.image g.T.Deserialize.restorable g.T.Deserialize.same) done l.values.items
    × ((ts : List Tree) → g.S.Source.holds l.elements ts → g.S.Source.holds l.fn.elements (done ++ ts))
    × (g.S.Source.are_whole l.fn.elements → g.S.Source.are_whole l.elements
    × (g.S.Source.items l.fn.elements ≡ done ++ g.S.Source.items l.elements)))

abbrev pub decreases-elements : goal.decreases-elements
decreases-elements g l = g.S.Source.number l.elements
