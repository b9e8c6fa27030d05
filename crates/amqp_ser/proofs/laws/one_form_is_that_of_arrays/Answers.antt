use Rattle.amqp_ser.proofs.Forms.{one_form}
use Rattle.amqp_ser.proofs.laws.one_form_is_that_of_arrays.Goals as goal

pub returns : goal.returns
returns c = one_form
