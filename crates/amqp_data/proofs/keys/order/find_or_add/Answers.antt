use Rattle.std.proofs.Common.{◌≡◌, ◌+◌, if◌then◌else◌, is_some, is_eq, cond, None, Some, option_copied, btree_map_len, sym, ap, ◌∙◌, rules}
use Rattle.std.specs.BTreeMap.{get}
use Rattle.amqp_data.proofs.OrderLemmas.{find_present, find_new}
use Rattle.amqp_data.proofs.keys.order.find_or_add.Goals as goal

pub returns-in-Some : goal.returns-in-Some
returns-in-Some g c =
    find_present g.K.PartialEq.eq g.K.Ord.cmp c.args.index.now c.args.key c.in-Some.at.now (sym c.get.ensures.value ∙ ap option_copied c.in-Some.is)

pub returns : goal.returns
returns g c =
    let none : get (λ a b. g.K.Ord.cmp a.now b.now) c.args.index.now c.args.key ≡ None = search rules in
    let added = c.in_ok-insert.ensures in
    find_new g.K.PartialEq.eq g.K.Ord.cmp c.args.index.now c.args.key g.met.K.Eq.laws.symm g.met.K.Eq.laws.congr g.met.K.Ord.matches_eq c.insert.new.self none
    (λ q. added.updates.0 q ∙ ap (λ n. cond (is_eq (g.K.Ord.cmp c.args.key.now q.now)) (Some n) (get (λ a b. g.K.Ord.cmp a.now b.now) c.args.index.now q)) c.len-last.ensures.len)
    (added.len ∙ ap (λ o. btree_map_len c.args.index.now + (if is_some o then 0 else 1)) (added.old ∙ none))
