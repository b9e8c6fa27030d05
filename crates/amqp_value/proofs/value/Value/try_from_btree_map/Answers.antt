use Rattle.std.proofs.Common.{sym, ◌∙◌, subst}
use Rattle.std.proofs.lemmas.Map.Iter.{iter_end}
use Rattle.std.specs.List.{AllZip}
use Rattle.amqp_value.specs.Converts.{PairConverts}
use Rattle.amqp_value.proofs.Zips.{converted_map, same_items}
use Rattle.amqp_value.proofs.value.Value.try_from_btree_map.Goals as goal

pub returns : goal.returns
returns g c =
    let start = c.into_iter-key-iterator.ensures.into_iter_gives in
    let last = iter_end (λ x. x) c.args.map.entries c.loop-key.yielded c.into_iter-key-iterator.result c.loop-key.key-iterator c.next.new.self c.next.result start.0 c.loop-key.yielded_by c.in-None.is c.next.ensures.steps in
    let each = subst (λ es. AllZip (PairConverts g.K.Into.converts g.V.Into.converts) es c.loop-key.pairs.items) (sym (same_items c.loop-key.yielded) ∙ last.0) c.loop-key.invariant in
    converted_map g.K.Into.converts g.V.Into.converts c.args.map.entries c.loop-key.pairs.items c.inserted.result each c.inserted.ensures
