use Rattle.std.proofs.Common.{ap, sym, subst, ◌∙◌}
use Rattle.std.specs.Prelude.{map}
use Rattle.amqp_value.specs.TreeOf.{tree_of}
use Rattle.amqp_value.proofs.TreeLemmas.{tree_of-Array}
use Rattle.amqp_de.proofs.Lists.{list_of_trees}
use Rattle.amqp_visit.specs.Events.{ByFormat, Visits, seq_event}
use Rattle.amqp_visit.proofs.deserializer.Deserializer.deserialize_format.Goals as goal

pub returns-in-Array : goal.returns-in-Array
returns-in-Array g c =
    subst
    (λ t. Visits (ByFormat (g.V.Visitor.gives c.args.visitor)) (ByFormat (g.V.Visitor.represents c.args.visitor))
    g.V.Visitor.same t c.visit_seq.result)
    (sym (ap tree_of c.in-Array.is ∙ tree_of-Array c.in-Array.array))
    (subst (λ e. Visits (g.V.Visitor.gives c.args.visitor) (g.V.Visitor.represents c.args.visitor)
    g.V.Visitor.same e c.visit_seq.result)
    (ap seq_event ((c.new.ensures ∙ ap (map tree_of) c.into_inner.ensures) ∙ sym (list_of_trees _)))
    c.visit_seq.ensures)
