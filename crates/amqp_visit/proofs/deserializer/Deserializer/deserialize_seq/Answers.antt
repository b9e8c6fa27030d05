use Rattle.std.proofs.Common.{ap, sym, ◌∙◌}
use Rattle.amqp_ser.specs.Tree as tree
use Rattle.amqp_ser.specs.Tree.{trees_of}
use Rattle.amqp_value.specs.TreeOf.{tree_of}
use Rattle.amqp_value.proofs.TreeLemmas.{tree_of-List}
use Rattle.amqp_visit.specs.Trees.{seq_left}
use Rattle.amqp_visit.proofs.Reported.{accepted, by_list}
use Rattle.amqp_visit.proofs.deserializer.Deserializer.deserialize_seq.Goals as goal

pub returns-in-List-clause-visits : goal.returns-in-List-clause-visits
returns-in-List-clause-visits g c =
    by_list (g.V.Visitor.gives c.args.visitor) (g.V.Visitor.represents c.args.visitor) g.V.Visitor.same
    (tree_of c.args.self.value) c.visit_seq.result (seq_left c.new.result)
    (ap tree_of c.in-List.is ∙ tree_of-List c.in-List.elements
    ∙ ap (λ us. tree.list (trees_of us)) (sym c.new.ensures)) c.visit_seq.ensures

pub returns-in-List-clause-invalid : goal.returns-in-List-clause-invalid
returns-in-List-clause-invalid g c =
    accepted c.visit_seq.result (
      trees_of (seq_left c.new.result),
      ap tree_of c.in-List.is ∙ tree_of-List c.in-List.elements
          ∙ ap (λ us. tree.list (trees_of us)) (sym c.new.ensures),
    )
