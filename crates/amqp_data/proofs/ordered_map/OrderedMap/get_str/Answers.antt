use Rattle.std.specs.Str.{bytes_eq}
use Rattle.amqp_data.proofs.EditLemmas.{lookup_by_none, lookup_by_found}
use Rattle.amqp_data.proofs.ordered_map.OrderedMap.get_str.Goals as goal

pub returns-in-Some : goal.returns-in-Some
returns-in-Some g c =
    lookup_by_found (λ (k : _). bytes_eq (g.K.AsStr.text k) c.args.text.now) c.args.self.now.entries.items c.in-Some.at c.index.result.now
    c.in-Some.ensures c.index.ensures

pub returns-in-None : goal.returns-in-None
returns-in-None g c =
    lookup_by_none (λ (k : _). bytes_eq (g.K.AsStr.text k) c.args.text.now) c.args.self.now.entries.items c.in-None.ensures
