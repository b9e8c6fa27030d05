use Rattle.std.proofs.Common.{refl}
use Rattle.amqp_wire.proofs.SinkLaws.{Laws}
use Rattle.amqp_wire.proofs.DescribedParts.{resumed}
use Rattle.amqp_wire.proofs.pass_serializer.PassSerializer.begin_part.Goals as goal

pub returns-clause-single : goal.returns-clause-single
returns-clause-single g c =
    let L : Laws g.K.Sink.adds g.K.Sink.reads g.K.Sink.within g.K.Sink.extends = record { chains = g.K.Sink.chains; goes_on = g.K.Sink.goes_on; bounded = g.K.Sink.bounded; keeps = g.K.Sink.keeps; stays = g.K.Sink.stays; on = g.K.Sink.extends_on; longer = g.K.Sink.longer; longer_within = g.K.Sink.longer_within } in
    λ start h t r after p. resumed g.K.Sink.adds g.K.Sink.reads g.K.Sink.within g.K.Sink.extends g.K.Sink.marks L start c.args.self.now (record { sink = c.args.self.now.sink; position = c.args.compound.now.position; marker = c.args.compound.now.marker; tries_parts = c.args.self.now.tries_parts }) c.args.compound.now refl refl refl h t r after p
