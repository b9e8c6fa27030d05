use Rattle.amqp_wire.proofs.Beginning.{headed_has}
use Rattle.amqp_wire.proofs.pass_serializer.PassSerializer.begin_compound.Goals as goal

pub returns-then-has_header : goal.returns-then-has_header
returns-then-has_header g c =
    headed_has g.K.Sink.adds g.K.Sink.reads g.K.Sink.within g.K.Sink.extends g.K.Sink.marks c.args.self.now c.begin_headed.new.self c.begin_headed.result c.args.kind c.resolve-resolved.result c.resolve-resolved.ensures (c.has_header.ensures c.if-has_header.true) c.begin_headed.ensures
