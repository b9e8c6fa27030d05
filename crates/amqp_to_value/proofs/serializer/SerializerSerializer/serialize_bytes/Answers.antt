use Rattle.std.proofs.Common.{Some, ap, subst}
use Rattle.amqp_ser.specs.Tree.{scalar, binary}
use Rattle.amqp_to_value.specs.PendingDescriptors.{standing}
use Rattle.amqp_to_value.specs.ImageOf.{Answers}
use Rattle.amqp_ser.specs.Meant.{meant}
use Rattle.amqp_to_value.proofs.serializer.SerializerSerializer.serialize_bytes.Goals as goal

pub returns : goal.returns
returns c =
    c.finish.ensures c.args.self.now _ (ap (λ a. a.kept) c.take_pending-pending.ensures.descriptors) (ap standing c.take_pending-pending.ensures.descriptors) c.take_pending-pending.ensures.none
    (subst (λ u. Answers (meant u (Some (scalar (binary c.args.v.now)))) c.marked_bytes.result) c.take_pending-pending.ensures.pending c.marked_bytes.ensures.image)
