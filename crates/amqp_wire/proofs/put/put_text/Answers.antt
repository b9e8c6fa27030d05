use Rattle.std.proofs.Common.{rules, length}
use Rattle.amqp_wire.proofs.Given.{text_bytes}
use Rattle.amqp_wire.proofs.put.put_text.Goals as goal

pub returns-clause-grown : goal.returns-clause-grown
returns-clause-grown g c =
    g.K.Sink.extends_on c.args.sink.now c.put_len.new.sink c.bytes.new.self c.put_len.ensures.grown c.bytes.ensures.grown

pub returns-clause-put : goal.returns-clause-put
returns-clause-put g c =
    λ q. text_bytes g.K.Sink.adds g.K.Sink.chains c.args.sink.now c.put_len.new.sink c.bytes.new.self c.args.element c.args.short c.args.long (length c.args.bytes.now) c.args.bytes.now (search rules) (c.put_len.ensures.put (search rules)) (c.bytes.ensures.put q)
