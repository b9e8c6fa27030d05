use Rattle.amqp_value.specs.Converts.{Fits, Fails}
use Rattle.std.proofs.Common.{rules}
use Rattle.amqp_value.proofs.Zips.{stops, wants_memory}
use Rattle.amqp_value.proofs.try_from.lists.convert_items.Goals as goal

pub returns-in-Err : goal.returns-in-Err
returns-in-Err g c =
    stops (Fits g.T.TryFrom.try_from_gives) (Fails g.T.TryFrom.try_from_gives) c.args.items.items c.into_iter-item-iterator.result c.loop-item.yielded _ c.in-Some.item c.next.new.self c.loop-item.converted.items c.in-Err.unfit
    c.into_iter-item-iterator.ensures.into_iter_gives.0 c.loop-item.yielded_by c.in-Some.ensures.steps c.loop-item.invariant c.in-Err.ensures

pub returns-in_err-put-in-Ok : goal.returns-in_err-put-in-Ok
returns-in_err-put-in-Ok g c =
    wants_memory (Fits g.T.TryFrom.try_from_gives) (Fails g.T.TryFrom.try_from_gives) _ c.args.items.items c.into_iter-item-iterator.result c.loop-item.yielded _ c.in-Some.item c.next.new.self c.loop-item.converted.items c.in-Ok.part _
    c.into_iter-item-iterator.ensures.into_iter_gives.0 c.loop-item.yielded_by c.in-Some.ensures.steps c.loop-item.invariant c.in-Ok.ensures (search rules)
