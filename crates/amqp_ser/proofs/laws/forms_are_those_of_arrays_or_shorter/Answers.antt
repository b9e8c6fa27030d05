use Rattle.amqp_ser.proofs.Forms.{tree_IsForm}
use Rattle.amqp_ser.proofs.laws.forms_are_those_of_arrays_or_shorter.Goals as goal

pub returns : goal.returns
returns c = tree_IsForm
