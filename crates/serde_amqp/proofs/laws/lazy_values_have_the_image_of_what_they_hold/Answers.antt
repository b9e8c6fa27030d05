use Rattle.serde_amqp.proofs.LazyLemmas.{held-image, held-refused, own-bytes}
use Rattle.serde_amqp.proofs.laws.lazy_values_have_the_image_of_what_they_hold.Goals as goal

pub returns : goal.returns
returns c = record {
  image = λ t v r w o le s. held-image t v (own-bytes t r w o 256 le) s;
  read = λ t e r w o le s. held-refused t e (own-bytes t r w o 256 le) s;
}
