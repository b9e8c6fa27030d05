use Rattle.amqp_wire.proofs.pass.Pass.open_at.Goals as goal

pub returns-clause-grown : goal.returns-clause-grown
returns-clause-grown g c =
    g.K.Sink.extends_on c.args.self.now.sink c.admit.new.self.sink c.open.new.self c.admit.ensures.grown c.open.ensures.grown
