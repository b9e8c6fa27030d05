use Rattle.amqp_dump.proofs.Ahead.{reading_stays}
use Rattle.amqp_dump.proofs.source.Source.read_block.Goals as goal

pub returns : goal.returns
returns g c = record { kept = reading_stays _ _ _ _ _ _ _ c.args.self.now.in_order c.forget.ensures c.read_more.ensures.read }
