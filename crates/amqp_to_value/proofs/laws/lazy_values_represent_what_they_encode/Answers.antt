use Rattle.std.proofs.Common.{sym, ◌∙◌, subst}
use Rattle.amqp_decode.specs.Encodes.{Encodes}
use Rattle.amqp_decode.proofs.OwnImage.{encoded-own_image}
use Rattle.amqp_value.specs.TreeOf.{tree_of}
use Rattle.amqp_to_value.proofs.laws.lazy_values_represent_what_they_encode.Goals as goal

pub returns : goal.returns
returns c = record {
  encoded = λ bytes v s. subst (Encodes 256 bytes) (sym (s.2 ∙ encoded-own_image s.1)) s.1;
  represents = λ bytes v s. (tree_of v, s, sym (encoded-own_image s));
}
