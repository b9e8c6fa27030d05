use Rattle.std.proofs.Common.{refl}
use Rattle.amqp_data.proofs.EditLemmas.{set_found}
use Rattle.amqp_data.proofs.PairLemmas.{lookup_none, lookup_found}
use Rattle.amqp_data.proofs.ordered_map.OrderedMap.get_mut.Goals as goal

pub returns-in-Some : goal.returns-in-Some
returns-in-Some g c =
    let eq = g.K.PartialEq.eq in
    let es = c.args.self.now.entries.items in
    let e = c.index_mut.result.now in (
      (refl, λ w. set_found eq c.args.key.now es w c.in-Some.at e c.in-Some.ensures c.index_mut.ensures.value, refl),
      record { writes_back = tt; value = lookup_found eq c.args.key.now es c.in-Some.at e c.in-Some.ensures c.index_mut.ensures.value },
    )

pub returns-in-None : goal.returns-in-None
returns-in-None g c = (
  (refl, λ w. tt, refl),
  record { writes_back = tt; value = lookup_none g.K.PartialEq.eq c.args.key.now c.args.self.now.entries.items c.in-None.ensures },
)
