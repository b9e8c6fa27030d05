use Rattle.std.proofs.Common.{ap, sym, ◌∙◌}
use Rattle.amqp_ser.specs.Tree as tree
use Rattle.amqp_value.specs.TreeOf.{pairs_of, tree_of}
use Rattle.amqp_value.proofs.TreeLemmas.{tree_of-Map}
use Rattle.amqp_visit.specs.Trees.{map_left}
use Rattle.amqp_visit.proofs.Reported.{accepted, by_map}
use Rattle.amqp_visit.proofs.deserializer.Deserializer.deserialize_map.Goals as goal

pub returns-in-Map-clause-visits : goal.returns-in-Map-clause-visits
returns-in-Map-clause-visits g c =
    by_map (g.V.Visitor.gives c.args.visitor) (g.V.Visitor.represents c.args.visitor) g.V.Visitor.same
    (tree_of c.args.self.value) c.visit_map.result (map_left c.new.result)
    (ap tree_of c.in-Map.is ∙ tree_of-Map c.in-Map.entries
    ∙ ap (λ us. tree.map (pairs_of us)) (sym c.new.ensures.left)) c.visit_map.ensures

pub returns-in-Map-clause-invalid : goal.returns-in-Map-clause-invalid
returns-in-Map-clause-invalid g c =
    accepted c.visit_map.result (
      pairs_of (map_left c.new.result),
      ap tree_of c.in-Map.is ∙ tree_of-Map c.in-Map.entries
          ∙ ap (λ us. tree.map (pairs_of us)) (sym c.new.ensures.left),
    )
