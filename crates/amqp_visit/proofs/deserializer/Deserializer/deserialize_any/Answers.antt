use Rattle.std.proofs.Common.{ap, sym, subst, ◌∙◌}
use Rattle.std.specs.Prelude.{map}
use Rattle.amqp_value.specs.TreeOf.{tree_of}
use Rattle.amqp_value.proofs.TreeLemmas.{tree_of-Array, tree_of-List, tree_of-Map}
use Rattle.amqp_de.proofs.Lists.{entries_in_pairs, list_of_trees}
use Rattle.amqp_visit.specs.Events.{Visits, any_event, map_event, seq_event}
use Rattle.amqp_visit.proofs.deserializer.Deserializer.deserialize_any.Goals as goal

pub returns-in-List : goal.returns-in-List
returns-in-List g c =
    subst (λ e. Visits (g.V.Visitor.gives c.args.visitor) (g.V.Visitor.represents c.args.visitor)
    g.V.Visitor.same e c.visit_seq.result)
    (ap seq_event (c.new.ensures ∙ sym (list_of_trees _))
    ∙ sym (ap any_event (ap tree_of c.in-List.is ∙ tree_of-List c.in-List.values))) c.visit_seq.ensures

pub returns-in-Array : goal.returns-in-Array
returns-in-Array g c =
    subst (λ e. Visits (g.V.Visitor.gives c.args.visitor) (g.V.Visitor.represents c.args.visitor)
    g.V.Visitor.same e c.visit_seq-in-Array.result)
    (ap seq_event ((c.new-in-Array.ensures ∙ ap (map tree_of) c.into_inner.ensures) ∙ sym (list_of_trees _))
    ∙ sym (ap any_event (ap tree_of c.in-Array.is ∙ tree_of-Array c.in-Array.array))) c.visit_seq-in-Array.ensures

pub returns-in-Map : goal.returns-in-Map
returns-in-Map g c =
    subst (λ e. Visits (g.V.Visitor.gives c.args.visitor) (g.V.Visitor.represents c.args.visitor)
    g.V.Visitor.same e c.visit_map.result)
    (ap map_event (c.new-in-Map.ensures.left ∙ sym (entries_in_pairs _))
    ∙ sym (ap any_event (ap tree_of c.in-Map.is ∙ tree_of-Map c.in-Map.map))) c.visit_map.ensures
