use Rattle.std.proofs.Common.{inl, inr, rules}
use Rattle.amqp_wire.proofs.Given.{lazy_gave}
use Rattle.amqp_wire.proofs.pass.Pass.lazy.Goals as goal

pub returns-in-Root-clause-gave : goal.returns-in-Root-clause-gave
returns-in-Root-clause-gave g c =
    λ q r. lazy_gave g.K.Sink.adds g.K.Sink.reads g.K.Sink.bounded c.args.self.now.sink c.bytes.new.self c.args.self.now.position c.args.self.now.position c.args.bytes.now (inl c.in-Root.is) (search rules) r (c.bytes.ensures.put q)

pub returns-in-Inside-clause-gave : goal.returns-in-Inside-clause-gave
returns-in-Inside-clause-gave g c =
    λ q r. lazy_gave g.K.Sink.adds g.K.Sink.reads g.K.Sink.bounded c.args.self.now.sink c.bytes-in-Inside.new.self c.args.self.now.position c.args.self.now.position c.args.bytes.now (inr c.in-Inside.is) (search rules) r (c.bytes-in-Inside.ensures.put q)
