use Rattle.std.proofs.Common.{rules}
use Rattle.amqp_wire.proofs.Given.{text_gave}
use Rattle.amqp_wire.proofs.pass.Pass.text.Goals as goal

pub returns-clause-grown : goal.returns-clause-grown
returns-clause-grown g c =
    g.K.Sink.extends_on c.args.self.now.sink c.admit.new.self.sink c.put_text.new.sink c.admit.ensures.grown c.put_text.ensures.grown

pub returns-clause-gave : goal.returns-clause-gave
returns-clause-gave g c =
    λ q x k f y w r. text_gave g.K.Sink.adds g.K.Sink.reads g.K.Sink.chains c.args.self.now.sink c.admit.new.self.sink c.put_text.new.sink c.args.self.now.position c.admit.new.self.position x c.args.bytes.now c.args.short c.args.long c.is_element-element.result k f y w r c.is_element-element.ensures (c.admit.ensures.admitted (search rules)) (c.admit.ensures.led (search rules)) (c.put_text.ensures.fits q) (c.put_text.ensures.put q)
