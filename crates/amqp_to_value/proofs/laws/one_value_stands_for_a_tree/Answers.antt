use Rattle.std.proofs.Common.{ap, sym, ◌∙◌}
use Rattle.amqp_value.specs.Image.{image}
use Rattle.amqp_to_value.proofs.ReadLemmas.{one-opened}
use Rattle.amqp_to_value.proofs.laws.one_value_stands_for_a_tree.Goals as goal

pub returns : goal.returns
returns c = λ t v w a b. a.2 ∙ ap image (one-opened t a.0 b.0 a.1 b.1) ∙ sym b.2
