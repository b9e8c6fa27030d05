use Rattle.std.proofs.Common.{◌≡◌, List, ◌++◌}
use Rattle.std.specs.List.{AllZip}
use Rattle.amqp_ser.specs.Tree.{Tree}
use Rattle.amqp_de.specs.Results.{ReadsAndRestores}
use Rattle.amqp_de.proofs.deserialize.Deserialize.read_all.Given as goal

abbrev pub invariant-elements : goal.invariant-elements
invariant-elements g l =
    (done : List Tree) × AllZip (ReadsAndRestores g.Self.Deserialize.reads g.Self.Deserialize.image g.Self.Deserialize.restorable g.Self.Deserialize.same) done l.values.items
    × ((ts : List Tree) → g.S.Source.holds l.elements ts → g.S.Source.holds l.fn.elements (done ++ ts))
    × (g.S.Source.are_whole l.fn.elements → g.S.Source.are_whole l.elements
    × (g.S.Source.items l.fn.elements ≡ done ++ g.S.Source.items l.elements))

abbrev pub decreases-elements : goal.decreases-elements
decreases-elements g l = g.S.Source.number l.elements
