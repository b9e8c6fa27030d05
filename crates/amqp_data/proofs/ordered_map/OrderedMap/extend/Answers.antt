use Rattle.std.proofs.Common.{rules, true, refl}
use Rattle.std.proofs.iter.runs.Made.{run, to_end}
use Rattle.amqp_data.specs.Pairs.{entries_of}
use Rattle.amqp_data.proofs.EditLemmas.{extended_by}
use Rattle.amqp_data.proofs.ordered_map.OrderedMap.extend.Goals as goal

pub loop-key-preserved : goal.loop-key-preserved
loop-key-preserved g c =
    let (can, finite, same, kept) = c.loop-key.invariant in
    let goes = c.in-Some.ensures.goes.on finite in (
      goes.0,
      goes.1,
      extended_by g.K.PartialEq.eq c.loop-key.yielded c.in-Some.key c.in-Some.value (entries_of c.args.self.now) (entries_of c.loop-key.self)
          (entries_of c.insert.new.self) c.in_ok-insert.ensures.entries same,
      λ distinct. c.in_ok-insert.ensures.distinct (kept distinct),
    )

-- the complete run yields the items that were inserted
pub returns-clause-entries : goal.returns-clause-entries
returns-clause-entries g c =
    let (can, finite, same, kept) = c.loop-key.invariant in
    let steps = g.I.Iterator.next_gives in
    let whole = to_end steps _ c.loop-key.yielded (_, (_, c.loop-key.yielded_by, c.in-None.ensures.steps)) in
    (run steps _ c.loop-key.yielded true whole, search rules, refl, same)
