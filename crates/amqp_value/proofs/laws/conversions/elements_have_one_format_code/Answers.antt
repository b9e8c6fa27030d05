use Rattle.amqp_value.proofs.CodeLemmas.{array-code}
use Rattle.amqp_value.proofs.laws.conversions.elements_have_one_format_code.Goals as goal

pub returns : goal.returns
returns c = array-code
