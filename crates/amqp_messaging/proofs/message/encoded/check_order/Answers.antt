use Rattle.std.proofs.Common.{◌≡◌, length, arith}
use Rattle.std.proofs.lemmas.Grind.{common_steps}
use Rattle.amqp_messaging.specs.Sections.{RefusesSections}
use Rattle.amqp_messaging.proofs.SectionLemmas.{nothing_left}
use Rattle.amqp_messaging.proofs.message.encoded.check_order.Goals as goal

pub returns-in-Err-clause-refused : goal.returns-in-Err-clause-refused
returns-in-Err-clause-refused c = c.loop-rest.invariant.refused _ (RefusesSections.here _ _ _ c.in-Err.ensures.refused)

pub returns-clause-ok : goal.returns-clause-ok
returns-clause-ok c =
    let len : length c.loop-rest.rest.now ≡ 0 = grind (arith, common_steps) in
    c.loop-rest.invariant.ordered (nothing_left c.loop-rest.last c.loop-rest.rest.now len)
