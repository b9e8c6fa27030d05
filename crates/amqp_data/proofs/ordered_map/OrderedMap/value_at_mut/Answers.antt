use Rattle.std.proofs.Common.{refl, arith}
use Rattle.amqp_data.proofs.EditLemmas.{set_at, value_at, no_value_at}
use Rattle.amqp_data.proofs.ordered_map.OrderedMap.value_at_mut.Goals as goal

pub returns-then-at-len : goal.returns-then-at-len
returns-then-at-len g c =
    let es = c.args.self.now.entries.items in
    let e = c.index_mut.result.now in (
      (refl, λ w. set_at es w c.args.at e c.index_mut.ensures.value, refl),
      record { writes_back = tt; value = value_at es c.args.at e (omega (arith, c.if-at-len.true, c.len.ensures)) c.index_mut.ensures.value },
    )

pub returns-else-at-len : goal.returns-else-at-len
returns-else-at-len g c = (
  (refl, λ w. tt, refl),
  record { writes_back = tt; value = no_value_at c.args.self.now.entries.items c.args.at (omega (arith, c.if-at-len.false, c.len.ensures)) },
)
