use Rattle.std.proofs.Common.{◌≡◌, List, ◌++◌}
use Rattle.std.specs.List.{AllZip}
use Rattle.amqp_ser.specs.Tree.{Tree}
use Rattle.amqp_de.specs.Maps.{ReadsPair}
use Rattle.amqp_de.specs.Results.{ReadsAndRestores}
use Rattle.amqp_de.proofs.impls.maps.read_entries.Given as goal

abbrev pub invariant-entries : goal.invariant-entries
invariant-entries g l =
    let K = g.K.Deserialize in
    let V = g.V.Deserialize in
    (done : List (Tree × Tree)) × AllZip (ReadsPair (ReadsAndRestores K.reads K.image K.restorable K.same) (ReadsAndRestores V.reads V.image V.restorable V.same)) done l.items.items
    × ((ps : List (Tree × Tree)) → g.S.Source.holds_pairs l.entries ps → g.S.Source.holds_pairs l.fn.entries (done ++ ps))
    × (g.S.Source.pairs_whole l.fn.entries → g.S.Source.pairs_whole l.entries
    × (g.S.Source.pairs l.fn.entries ≡ done ++ g.S.Source.pairs l.entries))

abbrev pub decreases-entries : goal.decreases-entries
decreases-entries g l = g.S.Source.pair_number l.entries
