use Rattle.std.proofs.Common.{ap, sym, ◌∙◌}
use Rattle.amqp_ser.specs.Same.{same_tree}
use Rattle.amqp_value.specs.Image.{image}
use Rattle.amqp_value.specs.TreeOf.{tree_of}
use Rattle.amqp_value.proofs.SameLemmas.{same-itself}
use Rattle.amqp_value.proofs.Sameness.{equal-is_same}
use Rattle.amqp_to_value.proofs.laws.scalars_keep_their_content.Goals as goal

pub returns : goal.returns
returns c = λ s a b content represents.
    equal-is_same b a ∙ ap (λ t. same_tree t (tree_of a)) (represents.2 ∙ ap image represents.1 ∙ sym content) ∙ same-itself (tree_of a)
