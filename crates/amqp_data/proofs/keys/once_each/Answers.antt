use Rattle.std.proofs.Common.{◌≡◌, IfOk, List, true, sym, ◌∙◌, subst, rules}
use Rattle.amqp_data.proofs.IndexLemmas.{on_true}
use Rattle.amqp_data.proofs.PairLemmas.{insert_pairs_distinct}
use Rattle.amqp_data.proofs.keys.once_each.Goals as goal

pub returns-then-branch : goal.returns-then-branch
returns-then-branch g c =
    let sure : c.in_ok-merge_repeated_keys.field-0 ≡ true = search rules in
    sym (insert_pairs_distinct g.K.PartialEq.eq g.met.K.Eq.laws.symm c.merge_repeated_keys.new.entries.items (on_true _ _ sure c.in_ok-merge_repeated_keys.ensures.distinct))
    ∙ c.in_ok-merge_repeated_keys.ensures.merged

pub returns : goal.returns
returns g c =
    subst (λ (es : List (g.row.K.Denot × g.row.V.Denot)). IfOk c.once_each_by_order.result (λ made. made.items ≡ es)) c.in_ok-merge_repeated_keys.ensures.merged c.once_each_by_order.ensures
