use Rattle.std.proofs.Common.{refl, sym, ap, ◌∙◌, rules}
use Rattle.amqp_data.proofs.EntryLemmas.{pushed_at, pushed_set}
use Rattle.amqp_data.proofs.ordered_map.OrderedMap.push_entry.Goals as goal

pub returns-in-Ok : goal.returns-in-Ok
returns-in-Ok g c =
    let es = c.args.self.now.entries.items in
    let new = c.push.new.self.items in
    let e = c.index_mut.result.now in (
      (refl, λ w ok. pushed_set es new c.args.key c.args.value c.len-at.result e c.in-Ok.ensures.items c.len-at.ensures c.index_mut.ensures.value w, tt),
      record {
        writes_back = tt;
        value = ap (λ y. y.1) (pushed_at es new c.args.key c.args.value c.len-at.result e c.in-Ok.ensures.items c.len-at.ensures c.index_mut.ensures.value);
      },
    )
