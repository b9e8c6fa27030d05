use Rattle.std.proofs.Common.{◌<◌, length, refl, ap, ◌++◌, ◌∙◌, option_to_list, rules}
use Rattle.std.specs.Box.{with_value}
use Rattle.amqp_to_value.proofs.PendingDescriptorLemmas.{wrapped}
use Rattle.amqp_to_value.proofs.pending_descriptors.wrap_from.Goals as goal

pub loop-stack-preserved : goal.loop-stack-preserved
loop-stack-preserved c =
    let lt : c.args.first < length c.loop-stack.stack.items = search rules in
    let inv = c.loop-stack.invariant in
    let is = wrapped c.pop.new.self.items c.loop-stack.stack.items c.args.stack.now.items c.in-Some.described
    (with_value c.in-Some.described (record { descriptor = c.deref_mut.result.now.descriptor; value = c.loop-stack.value })) c.args.first c.loop-stack.value _
    (c.pop.ensures.items ∙ ap (λ o. c.pop.new.self.items ++ option_to_list o) c.in-Some.is) lt
    (ap (λ d. d.descriptor) c.deref_mut.ensures.value) refl (inv.0, inv.2) in
    (is.0, c.pop.ensures.capacity ∙ inv.1, is.1)
