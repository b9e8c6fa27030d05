use Rattle.std.proofs.Common.{sym, ◌∙◌}
use Rattle.amqp_data.proofs.PairLemmas.{lookup_none, lookup_found}
use Rattle.amqp_data.proofs.ordered_map.entry.Entry.get.Goals as goal

pub returns-in-Some : goal.returns-in-Some
returns-in-Some g c =
    let e = c.args.self.now in
    lookup_found g.K.PartialEq.eq e.key e.map.now.entries.items c.in-Some.at c.index.result.now (sym c.in-Some.is ∙ e.found) c.index.ensures

pub returns-in-None : goal.returns-in-None
returns-in-None g c =
    let e = c.args.self.now in lookup_none g.K.PartialEq.eq e.key e.map.now.entries.items (sym c.in-None.is ∙ e.found)
