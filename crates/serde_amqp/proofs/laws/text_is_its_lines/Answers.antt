use Rattle.serde_amqp.proofs.PartLemmas.{are-lines}
use Rattle.serde_amqp.proofs.laws.text_is_its_lines.Goals as goal

pub returns : goal.returns
returns c = are-lines
