use Rattle.std.proofs.Common.{◌++◌, refl, ap, sym, ◌∙◌, append_assoc}
use Rattle.amqp_to_value.proofs.PendingDescriptorLemmas.{all_contents, prefix, parted}
use Rattle.amqp_to_value.proofs.pending_descriptors.PendingDescriptors.restore.Goals as goal

pub returns : goal.returns
returns c = λ others own later kept left none saved.
    let bs = c.self.inside.stack.items in
    let all = all_contents bs c.self.inside.kept others (own ++ later) (ap (λ v. v.kept) c.self.view_is ∙ kept) (ap (λ v. v.later) c.self.view_is ∙ left)
    ∙ sym (append_assoc others own later) in
    let cut = prefix bs c.truncate.new.self.items (others ++ own) later _ all (ap (λ a. a.end) saved) c.truncate.ensures.items in
    let parts = parted c.truncate.new.self.items others own _ cut (ap (λ a. a.first) saved) in
    (parts.0, parts.1, refl)
