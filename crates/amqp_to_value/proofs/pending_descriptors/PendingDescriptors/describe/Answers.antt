use Rattle.std.proofs.Common.{◌≡◌, [], ◌∷◌, ◌++◌, length, ap, sym, ◌∙◌, append_assoc, rules}
use Rattle.std.proofs.lemmas.List.{length-map, map-append}
use Rattle.amqp_ser.specs.Carried.{descriptor_content}
use Rattle.amqp_to_value.specs.PendingDescriptors.{descriptors_of}
use Rattle.amqp_to_value.proofs.PendingDescriptorLemmas.{all_contents, prefix, parted}
use Rattle.amqp_to_value.proofs.pending_descriptors.PendingDescriptors.describe.Goals as goal

pub returns : goal.returns
returns c = λ others own later kept left none saved.
    let bs = c.self.inside.stack.items in
    let d = descriptor_content c.args.descriptor in
    let cs = c.truncate.new.self.items in
    let all = all_contents bs c.self.inside.kept others (own ++ later) (ap (λ v. v.kept) c.self.view_is ∙ kept) (ap (λ v. v.later) c.self.view_is ∙ left)
    ∙ sym (append_assoc others own later) in
    let cut = prefix bs cs (others ++ own) later _ all (ap (λ a. a.end) saved) c.truncate.ensures.items in
    let first = ap (λ a. a.first) saved in
    let b = c.in_ok-described.described in
    let same : b.value.descriptor ≡ c.args.descriptor = search rules in
    let last = ap descriptors_of c.in_ok-push.ensures.items ∙ map-append _ cs (b ∷ []) ∙ ap (λ x. descriptors_of cs ++ (descriptor_content x ∷ [])) same in
    let put : descriptors_of c.push.new.self.items ≡ others ++ (own ++ (d ∷ [])) = last ∙ ap (λ ds. ds ++ (d ∷ [])) cut ∙ append_assoc others own (d ∷ []) in
    let parts = parted c.push.new.self.items others (own ++ (d ∷ [])) _ put first in
    let len : c.len.result ≡ length c.push.new.self.items = search rules in
    let end = len ∙ sym (length-map c.push.new.self.items _) ∙ ap length put in
    ((λ i. record { first = first i; end = end i }), parts.0, parts.1, ap (λ v. v.next) c.self.view_is ∙ none)
