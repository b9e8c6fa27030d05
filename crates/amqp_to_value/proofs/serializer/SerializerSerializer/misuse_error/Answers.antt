use Rattle.amqp_to_value.proofs.AnswerLemmas.{none_refused}
use Rattle.amqp_to_value.proofs.serializer.SerializerSerializer.misuse_error.Goals as goal

pub returns-clause-kept : goal.returns-clause-kept
returns-clause-kept c = λ start kind ps h. (h, (none_refused start, h.2))
