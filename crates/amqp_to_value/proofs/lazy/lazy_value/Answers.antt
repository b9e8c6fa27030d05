use Rattle.std.proofs.Common.{Some, None, if◌then◌else◌, subst}
use Rattle.amqp_ser.specs.Tree.{lazy}
use Rattle.amqp_to_value.specs.ImageOf.{Represents}
use Rattle.amqp_to_value.proofs.ReadLemmas.{lazy_read}
use Rattle.amqp_to_value.proofs.lazy.lazy_value.Goals as goal

pub returns-in-Ok-clause-image : goal.returns-in-Ok-clause-image
returns-in-Ok-clause-image c = lazy_read c.in-Ok.value c.args.bytes.now c.in-Ok.ensures.ok

pub returns-in-Ok-clause-not_encoded_value : goal.returns-in-Ok-clause-not_encoded_value
returns-in-Ok-clause-not_encoded_value c cut =
    subst (λ b. Represents c.in-Ok.value (if b then Some (lazy c.args.bytes.now) else None)) cut
    (lazy_read c.in-Ok.value c.args.bytes.now c.in-Ok.ensures.ok)
