use Rattle.amqp_value.proofs.AsMapLemmas.{encoding-as_map, constructor-as_map, within_limits-as_map, uniform_arrays-as_map, placed-as_map}
use Rattle.amqp_value.proofs.laws.variants_are_written_as_maps.Goals as goal

pub returns : goal.returns
returns c = record { bytes = encoding-as_map; constructor = constructor-as_map; limits = within_limits-as_map; constructors = uniform_arrays-as_map; places = placed-as_map }
