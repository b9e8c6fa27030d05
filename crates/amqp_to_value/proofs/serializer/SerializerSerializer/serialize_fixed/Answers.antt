use Rattle.std.proofs.Common.{Some, ap, subst}
use Rattle.amqp_ser.specs.Fixed.{fixed_scalar}
use Rattle.amqp_ser.specs.Tree.{scalar}
use Rattle.amqp_to_value.specs.PendingDescriptors.{standing}
use Rattle.amqp_to_value.specs.ImageOf.{Answers}
use Rattle.amqp_ser.specs.Meant.{meant}
use Rattle.amqp_to_value.proofs.ScalarLemmas.{fixed_answer}
use Rattle.amqp_to_value.proofs.serializer.SerializerSerializer.serialize_fixed.Goals as goal

pub returns : goal.returns
returns c =
    c.finish.ensures c.args.self.now _ (ap (λ a. a.kept) c.take_pending-pending.ensures.descriptors) (ap standing c.take_pending-pending.ensures.descriptors) c.take_pending-pending.ensures.none
    (subst (λ u. Answers (meant u (Some (scalar (fixed_scalar c.args.fixed)))) c.marked_fixed.result) c.take_pending-pending.ensures.pending (fixed_answer c.take_pending-pending.result c.args.fixed c.marked_fixed.result c.marked_fixed.ensures.image))
