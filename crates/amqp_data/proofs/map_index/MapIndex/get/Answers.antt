use Rattle.std.proofs.Common.{Some, List, ap, sym, ◌∙◌}
use Rattle.std.specs.Map.{lookup}
use Rattle.amqp_data.proofs.PairLemmas.{lookup_none, lookup_found}
use Rattle.amqp_data.proofs.map_index.MapIndex.get.Goals as goal

pub returns-in-Some : goal.returns-in-Some
returns-in-Some g c =
    let eq = g.K.PartialEq.eq in
    ap (λ (e : _ × _). Some e.1) (sym c.index-entries-at.is)
    ∙ lookup_found eq c.args.key.now c.self.inside.entries.now c.in-Some.at c.index-entries-at.result c.in-Some.ensures c.index-entries-at.is
    ∙ ap (λ (es : List (_ × _)). lookup (eq c.args.key.now) es) c.self.view_is

pub returns-in-None : goal.returns-in-None
returns-in-None g c =
    let eq = g.K.PartialEq.eq in
    lookup_none eq c.args.key.now c.self.inside.entries.now c.in-None.ensures
    ∙ ap (λ (es : List (_ × _)). lookup (eq c.args.key.now) es) c.self.view_is
