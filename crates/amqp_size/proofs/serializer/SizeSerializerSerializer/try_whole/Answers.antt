use Rattle.amqp_size.proofs.TakesWhole.{measured_at}
use Rattle.amqp_size.proofs.serializer.SizeSerializerSerializer.try_whole.Goals as goal

pub returns : goal.returns
returns g c = measured_at c.args.self.now c.tried_whole.new.self (g.W.Whole.whole_tree c.args.whole.now) c.whole_len-len.result (c.takes_whole.ensures c.if-not-takes_whole.false) c.tried_whole.ensures c.whole_len-len.ensures.measured c.whole_len-len.ensures.ranged
