-- The position of a value with the lengths of its descriptors, and the pending marker.
use Rattle.amqp_size.specs.declared.scalar_marker.ScalarMarker.{ScalarMarker}
use Rattle.amqp_size.specs.WholePosition.{Position}

pub data Context : Type 0 where
  Unmarked : Position → Context
  Array : Position → Context
  Transparent : Position → Context
  Scalar : ScalarMarker → Position → Context
  Nothing : Position → Context
