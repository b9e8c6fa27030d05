use Rattle.amqp_value.proofs.MapBuilderLemmas.{pushed}
use Rattle.amqp_value.proofs.map_builder.MapBuilder.insert.Goals as goal

pub returns-clause-ok : goal.returns-clause-ok
returns-clause-ok c = pushed c.push.result c.args.self.now.pairs.items c.push.new.self.items c.args.key c.args.value c.push.ensures.items
