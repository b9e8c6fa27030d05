use Rattle.std.proofs.Common.{rules}
use Rattle.amqp_wire.proofs.put.put_both.Goals as goal

pub returns-clause-grown : goal.returns-clause-grown
returns-clause-grown g c =
    g.K.Sink.extends_on c.args.sink.now c.few.new.self c.bytes.new.self c.few.ensures.grown c.bytes.ensures.grown

pub returns-clause-put : goal.returns-clause-put
returns-clause-put g c =
    λ q. g.K.Sink.chains c.args.sink.now c.few.new.self c.bytes.new.self c.args.few.now c.args.bytes.now (c.few.ensures.put (search rules)) (c.bytes.ensures.put q)
