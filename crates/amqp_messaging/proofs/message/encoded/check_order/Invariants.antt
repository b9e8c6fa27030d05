use Rattle.std.proofs.Common.{◌≡◌, None, length}
use Rattle.amqp_messaging.specs.Sections.{AreSections, RefusesSections}
use Rattle.amqp_messaging.specs.declared.message.error.MessageError.{MessageError}
use Rattle.amqp_messaging.proofs.message.encoded.check_order.Given as goal

abbrev pub invariant-loop-rest : goal.invariant-loop-rest
invariant-loop-rest l = record {
  ordered : AreSections l.last l.rest → AreSections None l.bytes;
  refused : (e : MessageError) → RefusesSections l.last l.rest e → RefusesSections None l.bytes e;
}

abbrev pub decreases-loop-rest : goal.decreases-loop-rest
decreases-loop-rest l = length l.rest
