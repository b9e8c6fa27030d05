use Rattle.std.proofs.Common.{rules, ◌≡◌, [], length, arith}
use Rattle.std.proofs.lemmas.Grind.{common_steps}
use Rattle.amqp_decode.proofs.Whole.{nil-from_length}
use Rattle.amqp_de.specs.EncodedTrees.{element_counter, element_reader}
use Rattle.amqp_de.proofs.EncodedCounts.{closed_counts}
use Rattle.amqp_de.proofs.EncodedLemmas.{closed}
use Rattle.amqp_de.proofs.encoded.EncodedSource.close.Goals as goal

pub returns-then-is_empty-clause-ok : goal.returns-then-is_empty-clause-ok
returns-then-is_empty-clause-ok c =
    let es = c.args.elements in
    let done : es.left ≡ 0 = search rules in
    let none : length es.bytes.now ≡ 0 = grind (arith, common_steps) in
    let filled = closed (element_reader es.depth es.constructor) es.left es.bytes.now done (nil-from_length es.bytes.now none) in
    ([], (filled, closed_counts (element_counter es.depth es.constructor) (element_reader es.depth es.constructor) es.left es.bytes.now done))
