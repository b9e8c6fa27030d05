use Rattle.std.proofs.Common.{◌∙◌}
use Rattle.amqp_value.proofs.ImageLemmas.{image-plain}
use Rattle.amqp_to_value.proofs.ReadLemmas.{plain_not_lazy, represents-image}
use Rattle.amqp_to_value.proofs.laws.plain_trees_come_back.Goals as goal

pub returns : goal.returns
returns c = λ t v plain represents. represents-image t v (plain_not_lazy t plain) represents ∙ image-plain t plain
