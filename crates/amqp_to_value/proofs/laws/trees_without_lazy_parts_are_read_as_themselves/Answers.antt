use Rattle.amqp_to_value.proofs.ReadLemmas.{opened-itself, opened-same}
use Rattle.amqp_to_value.proofs.laws.trees_without_lazy_parts_are_read_as_themselves.Goals as goal

pub returns : goal.returns
returns c = record {
  itself = λ t h. opened-itself t h;
  alone = λ t u h o. opened-same t u h o;
}
