use Rattle.std.proofs.Common.{◌++◌, ap, sym, ◌∙◌, append_assoc}
use Rattle.amqp_to_value.proofs.PendingDescriptorLemmas.{all_contents, parted}
use Rattle.amqp_to_value.proofs.pending_descriptors.PendingDescriptors.keep.Goals as goal

pub returns : goal.returns
returns c = λ others own later kept left none saved.
    let bs = c.self.inside.stack.items in
    let all = all_contents bs c.self.inside.kept others (own ++ later) (ap (λ v. v.kept) c.self.view_is ∙ kept) (ap (λ v. v.later) c.self.view_is ∙ left)
    ∙ sym (append_assoc others own later) in
    ((parted bs (others ++ own) later _ all (ap (λ a. a.end) saved)).0, ap (λ v. v.next) c.self.view_is ∙ none)
