use Rattle.std.proofs.Common.{Some, subst}
use Rattle.amqp_ser.specs.Tree.{scalar, string}
use Rattle.amqp_wire.specs.Gives.{Gives}
use Rattle.amqp_wire.proofs.Given.{text_given}
use Rattle.amqp_wire.proofs.pass_serializer.PassSerializer.serialize_str.Goals as goal

pub returns-in-Some : goal.returns-in-Some
returns-in-Some g c =
    subst (λ bs. Gives g.K.Sink.adds g.K.Sink.reads g.K.Sink.extends c.args.self.now (Some (scalar (string bs))) c.done.result c.text.new.self) c.as_bytes.ensures.value
    (text_given g.K.Sink.adds g.K.Sink.reads g.K.Sink.extends c.args.self.now c.text.new.self c.as_bytes.result.now c.in-Some.codes.short c.in-Some.codes.long c.text.result c.done.result c.in-Some.ensures c.as_bytes.ensures.utf8 c.text.ensures.grown c.text.ensures.gave c.done.ensures)
