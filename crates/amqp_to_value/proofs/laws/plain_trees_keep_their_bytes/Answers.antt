use Rattle.std.proofs.Common.{ap, ◌∙◌}
use Rattle.amqp_ser.specs.Encoding.{encoding}
use Rattle.amqp_ser.specs.Writable.{writable}
use Rattle.amqp_value.proofs.ImageLemmas.{image-plain}
use Rattle.amqp_value.proofs.AsMapLemmas.{encoding-as_map, writable-as_map}
use Rattle.amqp_to_value.proofs.ReadLemmas.{plain_not_lazy, represents-image}
use Rattle.amqp_to_value.proofs.laws.plain_trees_keep_their_bytes.Goals as goal

pub returns : goal.returns
returns c = record {
  writable = λ t v plain represents. ap writable (represents-image t v (plain_not_lazy t plain) represents ∙ image-plain t plain) ∙ writable-as_map t;
  bytes = λ t v plain represents. ap encoding (represents-image t v (plain_not_lazy t plain) represents ∙ image-plain t plain) ∙ encoding-as_map t;
}
