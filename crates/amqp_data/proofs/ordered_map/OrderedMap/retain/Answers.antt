use Rattle.amqp_data.proofs.EditLemmas.{distinct_kept}
use Rattle.amqp_data.proofs.ordered_map.OrderedMap.retain.Goals as goal

pub returns-clause-distinct : goal.returns-clause-distinct
returns-clause-distinct g c distinct =
    let filtered = c.retain.ensures.filtered in
    rw filtered.4 (distinct_kept g.K.PartialEq.eq filtered.0 c.args.self.now.entries.items distinct)
