use Rattle.serde_amqp.proofs.LineLemmas.{last-tested}
use Rattle.serde_amqp.proofs.split_lines.ends_empty.Goals as goal

pub returns-in-Some : goal.returns-in-Some
returns-in-Some c = last-tested c.args.parts.now c.in-Some.last.now c.is_empty.result c.in-Some.ensures.value c.is_empty.ensures
