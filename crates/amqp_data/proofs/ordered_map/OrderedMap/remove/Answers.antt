use Rattle.std.proofs.Common.{sym, subst, ◌∙◌}
use Rattle.std.specs.Map.{keys_of}
use Rattle.amqp_data.specs.Pairs.{AreDistinct}
use Rattle.amqp_data.proofs.EditLemmas.{distinct_removed, remove_found, remove_none}
use Rattle.amqp_data.proofs.PairLemmas.{lookup_none, lookup_found}
use Rattle.amqp_data.proofs.ordered_map.OrderedMap.remove.Goals as goal

pub returns-in-Some-clause-value : goal.returns-in-Some-clause-value
returns-in-Some-clause-value g c =
    lookup_found g.K.PartialEq.eq c.args.key.now c.args.self.now.entries.items c.in-Some.at c.remove.result c.in-Some.ensures c.remove.ensures.value

pub returns-in-Some-clause-entries : goal.returns-in-Some-clause-entries
returns-in-Some-clause-entries g c =
    c.remove.ensures.items
    ∙ remove_found g.K.PartialEq.eq c.args.key.now c.args.self.now.entries.items c.in-Some.at c.remove.result c.in-Some.ensures

pub returns-in-Some-clause-distinct : goal.returns-in-Some-clause-distinct
returns-in-Some-clause-distinct g c distinct =
    let eq = g.K.PartialEq.eq in
    let kept = distinct_removed eq (eq c.args.key.now) c.args.self.now.entries.items distinct in
    subst (λ es. AreDistinct eq (keys_of es)) (sym (returns-in-Some-clause-entries g c)) kept

pub returns-in-None-clause-value : goal.returns-in-None-clause-value
returns-in-None-clause-value g c = lookup_none g.K.PartialEq.eq c.args.key.now c.args.self.now.entries.items c.in-None.ensures

pub returns-in-None-clause-entries : goal.returns-in-None-clause-entries
returns-in-None-clause-entries g c = remove_none g.K.PartialEq.eq c.args.key.now c.args.self.now.entries.items c.in-None.ensures
