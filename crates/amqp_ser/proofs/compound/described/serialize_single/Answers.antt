use Rattle.std.proofs.Common.{[]}
use Rattle.amqp_ser.specs.declared.kind.CompoundKind.TheVariants.{Single}
use Rattle.amqp_ser.proofs.Single.{one_value}
use Rattle.amqp_ser.proofs.compound.described.serialize_single.Goals as goal

pub returns : goal.returns
returns g c = λ start h.
    one_value g.S.Serializer.permits g.S.Serializer.has start c.serialize_part.new.serializer c.serialize_part.new.compound (g.T.Serialize.tree c.args.value.now) c.serialize_part.result (c.serialize_part.ensures Single start [] h)
