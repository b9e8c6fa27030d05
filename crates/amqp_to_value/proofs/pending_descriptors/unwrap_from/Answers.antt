use Rattle.std.proofs.Common.{sym, ap, ◌∙◌, rules}
use Rattle.amqp_value.specs.TreeOf.{tree_of}
use Rattle.amqp_to_value.proofs.PendingDescriptorLemmas.{more_rest, not_described, unwrapped}
use Rattle.amqp_to_value.proofs.pending_descriptors.unwrap_from.Goals as goal

pub returns-in_default : goal.returns-in_default
returns-in_default c = λ ds t count room is.
    let inv = c.loop.invariant ds t count room is in
    let more = more_rest inv.0 c.loop.counter c.args.count t inv.1 c.loop-test.true in
    not_described c.loop.value c.in_default.not-Described more.0 more.1 (inv.4 ∙ more.2)

pub loop-preserved : goal.loop-preserved
loop-preserved c = λ ds t count room is.
    let inv = c.loop.invariant ds t count room is in
    unwrapped inv.0 c.loop.stack.items c.push.new.self.items c.in-Described.described _ c.replace-value.result _ t _ _ _ _ _ _
    inv.1 c.loop-test.true inv.2 (search rules) c.push.ensures.capacity inv.3 c.in_ok-push.ensures.items (ap (λ d. d.descriptor) c.deref_mut.ensures.value)
    (c.replace-value.ensures.value ∙ ap (λ d. d.value) c.deref_mut.ensures.value)
    (ap tree_of (sym c.in-Described.is) ∙ inv.4)
