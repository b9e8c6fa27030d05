use Rattle.std.proofs.Common.{subst}
use Rattle.amqp_to_value.specs.PendingDescriptors.{standing}
use Rattle.amqp_to_value.specs.ImageOf.{Answers}
use Rattle.amqp_ser.specs.Meant.{meant}
use Rattle.amqp_to_value.proofs.AnswerLemmas.{finished, finished_not}
use Rattle.amqp_to_value.proofs.serializer.Serializer.finish.Goals as goal

pub returns-in-Ok : goal.returns-in-Ok
returns-in-Ok c = λ start t e f fresh is.
    finished start (record { alloc = c.args.self.now.alloc; pending = c.args.self.now.pending; descriptors = c.wrap.new.self; capacity = c.args.self.now.capacity }) t c.in-Ok.value c.wrap.result
    c.args.self.now.descriptors.kept (standing c.args.self.now.descriptors) e f fresh c.wrap.ensures.kept c.wrap.ensures.none c.wrap.ensures.room c.wrap.ensures.described
    (subst (Answers (meant start.pending t)) c.in-Ok.is is)

pub returns-in-Err : goal.returns-in-Err
returns-in-Err c = λ start t e f fresh is.
    finished_not start (record { alloc = c.args.self.now.alloc; pending = c.args.self.now.pending; descriptors = c.leave.new.self; capacity = c.args.self.now.capacity }) t c.in-Err.e
    c.args.self.now.descriptors e f fresh c.leave.ensures.kept c.leave.ensures.later c.leave.ensures.none
    (subst (Answers (meant start.pending t)) c.in-Err.is is)
