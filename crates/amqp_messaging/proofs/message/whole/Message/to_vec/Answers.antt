use Rattle.std.proofs.Common.{rules}
use Rattle.amqp_messaging.proofs.MessageLemmas.{after_nothing}
use Rattle.amqp_messaging.proofs.message.whole.Message.to_vec.Goals as goal

pub returns-clause-written : goal.returns-clause-written
returns-clause-written c =
    let front = c.in-Some-put_front.ensures in
    let bare = c.in-Some-put_bare.ensures in
    let footer = c.in-Some-put_section.ensures in
    (c.in-Some-put_front.front.out.items, c.in-Some-put_bare.bare.out.items, search (after_nothing, front, c.in-Some.ensures, rules), bare, search (footer, rules))
