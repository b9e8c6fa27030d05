use Rattle.std.proofs.Common.{rules, true, refl}
use Rattle.std.proofs.iter.runs.Made.{run, to_end}
use Rattle.amqp_data.proofs.transparent_vec.TransparentVec.try_collect.Goals as goal

pub loop-item-init : goal.loop-item-init
loop-item-init g c = (search rules, search rules, search rules)

pub loop-item-preserved : goal.loop-item-preserved
loop-item-preserved g c =
    let (can, finite, same) = c.loop-item.invariant in
    let goes = c.in-Some.ensures.goes.on finite in
    (goes.0, goes.1, search (rules, same))

-- the complete run yields the items that were pushed
pub returns-clause-items : goal.returns-clause-items
returns-clause-items g c =
    let (can, finite, same) = c.loop-item.invariant in
    let steps = g.I.Iterator.next_gives in
    let whole = to_end steps _ c.loop-item.yielded (_, (_, c.loop-item.yielded_by, c.in-None.ensures.steps)) in
    (run steps _ c.loop-item.yielded true whole, search rules, refl, same)
