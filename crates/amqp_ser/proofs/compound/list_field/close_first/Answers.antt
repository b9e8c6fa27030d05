use Rattle.std.proofs.Common.{[], Err, subst}
use Rattle.amqp_ser.specs.declared.kind.CompoundKind.TheVariants.{Single}
use Rattle.amqp_ser.proofs.Single.{whole_single}
use Rattle.amqp_ser.proofs.compound.list_field.close_first.Goals as goal

pub returns-in-Err : goal.returns-in-Err
returns-in-Err g c = λ start before w p r.
    let k = c.in-Err.ensures.step start Single before [] p w r in
    (k.0, subst (λ t. g.S.Serializer.permits start t (Err c.in-Err.e) c.end_part.new.self) (whole_single p) (k.1 []))
