use Rattle.std.proofs.Common.{ap, ◌∙◌}
use Rattle.amqp_to_value.proofs.PendingDescriptorLemmas.{all_contents, parted}
use Rattle.amqp_to_value.proofs.pending_descriptors.PendingDescriptors.release.Goals as goal

pub returns-clause-parted : goal.returns-clause-parted
returns-clause-parted c = λ others own rest all saved.
    parted c.self.inside.stack.items others rest _
    (all_contents c.self.inside.stack.items c.self.inside.kept _ _ (ap (λ v. v.kept) c.self.view_is) (ap (λ v. v.later) c.self.view_is) ∙ all) (ap (λ a. a.first) saved)
