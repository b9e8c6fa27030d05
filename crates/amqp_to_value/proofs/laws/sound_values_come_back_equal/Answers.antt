use Rattle.std.proofs.Common.{ap, ◌∙◌}
use Rattle.amqp_ser.specs.Same.{same_tree}
use Rattle.amqp_value.specs.TreeOf.{tree_of}
use Rattle.amqp_value.proofs.SameLemmas.{same-itself}
use Rattle.amqp_value.proofs.Sameness.{equal-is_same}
use Rattle.amqp_to_value.proofs.ReadLemmas.{own}
use Rattle.amqp_to_value.proofs.laws.sound_values_come_back_equal.Goals as goal

pub returns : goal.returns
returns c = record {
  tree = λ a b sound represents. own a b sound represents;
  equal = λ a b sound represents.
      equal-is_same b a ∙ ap (λ t. same_tree t (tree_of a)) (own a b sound represents) ∙ same-itself (tree_of a);
}
