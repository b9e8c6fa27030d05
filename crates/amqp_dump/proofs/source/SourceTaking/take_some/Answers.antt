use Rattle.amqp_dump.proofs.Ahead.{taking_stays}
use Rattle.amqp_dump.proofs.source.SourceTaking.take_some.Goals as goal

pub returns : goal.returns
returns g c = record { kept = λ s e. taking_stays _ _ _ _ _ c.read_ahead.new.self.in_order s (c.read_ahead.ensures.kept s e) }
