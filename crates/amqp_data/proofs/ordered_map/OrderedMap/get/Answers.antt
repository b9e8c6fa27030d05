use Rattle.amqp_data.proofs.PairLemmas.{lookup_none, lookup_found}
use Rattle.amqp_data.proofs.ordered_map.OrderedMap.get.Goals as goal

pub returns-in-Some : goal.returns-in-Some
returns-in-Some g c =
    lookup_found g.K.PartialEq.eq c.args.key.now c.args.self.now.entries.items c.in-Some.at c.index.result.now c.in-Some.ensures c.index.ensures

pub returns-in-None : goal.returns-in-None
returns-in-None g c = lookup_none g.K.PartialEq.eq c.args.key.now c.args.self.now.entries.items c.in-None.ensures
