use Rattle.std.proofs.Common.{◌≡◌, ◌-◌, length, vec_len, ap, sym, ◌∙◌, rules, arith}
use Rattle.std.proofs.lemmas.List.{length-append, length-map}
use Rattle.amqp_to_value.proofs.PendingDescriptorLemmas.{all_contents, prefix, put_again}
use Rattle.amqp_to_value.proofs.pending_descriptors.PendingDescriptors.unwrap.Goals as goal

pub returns : goal.returns
returns c = λ others own t kept none saved room is.
    let bs = c.self.inside.stack.items in
    let cs = c.truncate.new.self.items in
    let first = ap (λ a. a.first) saved in
    let all = all_contents bs c.self.inside.kept others c.args.self.now.later (ap (λ v. v.kept) c.self.view_is ∙ kept) (ap (λ v. v.later) c.self.view_is) in
    let cut = prefix bs cs others c.args.self.now.later _ all first c.truncate.ensures.items in
    let long = sym (length-map cs _) ∙ ap length cut in
    let sum = length-append others own in
    let len : vec_len c.truncate.new.self ≡ length cs = search rules in
    let same = c.truncate.ensures.capacity ∙ ap (λ v. v.room) c.self.view_is in
    let less = c.saturating_sub.ensures ∙ ap (λ a. a.end - a.first) saved in
    let count : c.saturating_sub.result ≡ length own = omega arith in
    put_again c.unwrap_from-inner.result cs c.unwrap_from-inner.new.stack.items others own t _ _ cut first (ap (λ v. v.next) c.self.view_is ∙ none)
    (c.unwrap_from-inner.ensures own t count (omega arith) is)
