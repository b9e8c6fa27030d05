use Rattle.amqp_wire.specs.Gives.{class_of}
use Rattle.amqp_wire.proofs.SinkLaws.{Laws, has_extends}
use Rattle.amqp_wire.specs.Kept.{kept}
use Rattle.amqp_wire.proofs.pass_serializer.PassSerializer.misuse_error.Goals as goal

pub returns-clause-kept : goal.returns-clause-kept
returns-clause-kept g c =
    let L : Laws g.K.Sink.adds g.K.Sink.reads g.K.Sink.within g.K.Sink.extends = record { chains = g.K.Sink.chains; goes_on = g.K.Sink.goes_on; bounded = g.K.Sink.bounded; keeps = g.K.Sink.keeps; stays = g.K.Sink.stays; on = g.K.Sink.extends_on; longer = g.K.Sink.longer; longer_within = g.K.Sink.longer_within } in
    λ start kind ps h. (h, has_extends g.K.Sink.adds g.K.Sink.reads g.K.Sink.within g.K.Sink.extends g.K.Sink.marks L (class_of c.args._compound.now.kind) c.args._compound.now.kind start kind c.args.self.now.sink (kept c.args._compound.now) ps h)
