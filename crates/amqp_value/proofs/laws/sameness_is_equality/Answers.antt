use Rattle.amqp_value.proofs.SameLemmas.{same-equal, same-itself}
use Rattle.amqp_value.proofs.laws.sameness_is_equality.Goals as goal

pub returns : goal.returns
returns c = record { equal = same-equal; same = same-itself }
