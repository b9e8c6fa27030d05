use Rattle.std.proofs.Common.{ap, ◌∙◌}
use Rattle.amqp_ser.specs.Encoding.{encoding, constructor}
use Rattle.amqp_ser.specs.Writable.{within_limits, uniform_arrays, placed, writable}
use Rattle.amqp_value.proofs.ImageLemmas.{image-plain}
use Rattle.amqp_value.proofs.AsMapLemmas.{encoding-as_map, constructor-as_map, within_limits-as_map, uniform_arrays-as_map, placed-as_map, writable-as_map}
use Rattle.amqp_value.proofs.laws.image_is_written_as_the_same_bytes.Goals as goal

pub returns : goal.returns
returns c = record {
  writable = λ t plain. ap writable (image-plain t plain) ∙ writable-as_map t;
  bytes = λ t plain. ap encoding (image-plain t plain) ∙ encoding-as_map t;
  constructor = λ t plain. ap constructor (image-plain t plain) ∙ constructor-as_map t;
  limits = λ t plain. ap within_limits (image-plain t plain) ∙ within_limits-as_map t;
  constructors = λ t plain. ap uniform_arrays (image-plain t plain) ∙ uniform_arrays-as_map t;
  places = λ t plain. ap placed (image-plain t plain) ∙ placed-as_map t;
}
