use Rattle.std.proofs.Common.{rules}
use Rattle.amqp_wire.proofs.Given.{number_gave}
use Rattle.amqp_wire.proofs.pass.Pass.number.Goals as goal

pub returns-clause-grown : goal.returns-clause-grown
returns-clause-grown g c =
    g.K.Sink.extends_on c.args.self.now.sink c.admit.new.self.sink c.put_number.new.sink c.admit.ensures.grown c.put_number.ensures.grown

pub returns-clause-gave : goal.returns-clause-gave
returns-clause-gave g c =
    λ q x f. number_gave g.K.Sink.adds g.K.Sink.reads g.K.Sink.chains c.args.self.now.sink c.admit.new.self.sink c.put_number.new.sink c.args.self.now.position c.admit.new.self.position c.args.in_array c.args.ordinary x c.is_element-element.result f c.is_element-element.ensures (c.admit.ensures.admitted (search rules)) (c.admit.ensures.led (search rules)) (c.put_number.ensures.put q)
