use Rattle.amqp_wire.proofs.SinkLaws.{Laws}
use Rattle.amqp_wire.proofs.Beginning.{newtype_variant_begun}
use Rattle.amqp_wire.proofs.pass.Pass.begin_newtype_variant.Goals as goal

pub returns : goal.returns
returns g c =
    let L : Laws g.K.Sink.adds g.K.Sink.reads g.K.Sink.within g.K.Sink.extends = record { chains = g.K.Sink.chains; goes_on = g.K.Sink.goes_on; bounded = g.K.Sink.bounded; keeps = g.K.Sink.keeps; stays = g.K.Sink.stays; on = g.K.Sink.extends_on; longer = g.K.Sink.longer; longer_within = g.K.Sink.longer_within } in
    λ m. newtype_variant_begun g.K.Sink.adds g.K.Sink.reads g.K.Sink.within g.K.Sink.extends g.K.Sink.marks L c.args.self.now (record { sink = c.put_index.new.sink; position = c.open_at.new.self.position; marker = c.open_at.new.self.marker; tries_parts = c.open_at.new.self.tries_parts }) c.open_at.new.self.sink c.open.result c.in-Some.outer c.args.index c.open.ensures.kind c.open.ensures.outer c.open.ensures.count c.open.ensures.position c.open.ensures.marker c.open.ensures.after c.ranges.index.fits m c.in-Some.ensures.admitted c.in-Some.ensures.opened (c.put_index.ensures.put c.if-not-put_index.false)
