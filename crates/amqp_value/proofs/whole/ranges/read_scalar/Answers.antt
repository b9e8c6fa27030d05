use Rattle.amqp_value.proofs.TreeLemmas.{tree_of-Map, tree_of-Array}
use Rattle.amqp_value.proofs.whole.ranges.read_scalar.Goals as goal

pub returns-in-Map : goal.returns-in-Map
returns-in-Map c = rw c.in-Map.is (rw (tree_of-Map c.in-Map.field-0) tt)

pub returns-in-Array : goal.returns-in-Array
returns-in-Array c = rw c.in-Array.is (rw (tree_of-Array c.in-Array.field-0) tt)
