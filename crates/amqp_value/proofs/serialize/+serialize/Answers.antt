use Rattle.amqp_value.proofs.TreeLemmas.{list-tree, map-tree, array-tree}
use Rattle.amqp_value.proofs.serialize.+serialize.Goals as goal

pub serialize_parts-returns-in-List : goal.serialize_parts-returns-in-List
serialize_parts-returns-in-List g t c = rw c.in-List.is (rw (list-tree c.in-List.v) at c.apart-in-List.ensures)

pub serialize_parts-returns-in-Map : goal.serialize_parts-returns-in-Map
serialize_parts-returns-in-Map g t c = rw c.in-Map.is (rw (map-tree c.in-Map.v) at c.apart-in-Map.ensures)

pub serialize_parts-returns-in-Array : goal.serialize_parts-returns-in-Array
serialize_parts-returns-in-Array g t c = rw c.in-Array.is (rw (array-tree c.in-Array.v) at c.apart-in-Array.ensures)
