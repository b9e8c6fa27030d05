use Rattle.amqp_to_value.proofs.ReadLemmas.{opened-itself, represents-image}
use Rattle.amqp_to_value.proofs.laws.images_represent_trees_without_lazy_parts.Goals as goal

pub returns : goal.returns
returns c = record {
  image = λ t v h s. represents-image t v h s;
  represents = λ t v h e. (t, opened-itself t h, e);
}
