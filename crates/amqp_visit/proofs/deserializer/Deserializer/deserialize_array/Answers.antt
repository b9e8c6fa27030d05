use Rattle.std.proofs.Common.{ap, sym, ◌∙◌}
use Rattle.std.specs.Prelude.{map}
use Rattle.amqp_ser.specs.Tree as tree
use Rattle.amqp_ser.specs.Tree.{trees_of}
use Rattle.amqp_value.specs.TreeOf.{tree_of}
use Rattle.amqp_value.proofs.TreeLemmas.{tree_of-Array}
use Rattle.amqp_visit.specs.Trees.{seq_left}
use Rattle.amqp_visit.proofs.Reported.{accepted, by_array}
use Rattle.amqp_visit.proofs.deserializer.Deserializer.deserialize_array.Goals as goal

pub returns-in-Array-clause-visits : goal.returns-in-Array-clause-visits
returns-in-Array-clause-visits g c =
    by_array (g.V.Visitor.gives c.args.visitor) (g.V.Visitor.represents c.args.visitor) g.V.Visitor.same
    (tree_of c.args.self.value) c.visit_seq.result (seq_left c.new.result)
    (ap tree_of c.in-Array.is ∙ tree_of-Array c.in-Array.elements
    ∙ ap (λ us. tree.array (trees_of us)) (sym (c.new.ensures ∙ ap (map tree_of) c.into_inner.ensures)))
    c.visit_seq.ensures

pub returns-in-Array-clause-invalid : goal.returns-in-Array-clause-invalid
returns-in-Array-clause-invalid g c =
    accepted c.visit_seq.result (
      trees_of (seq_left c.new.result),
      ap tree_of c.in-Array.is ∙ tree_of-Array c.in-Array.elements
          ∙ ap (λ us. tree.array (trees_of us)) (sym (c.new.ensures ∙ ap (map tree_of) c.into_inner.ensures)),
    )
