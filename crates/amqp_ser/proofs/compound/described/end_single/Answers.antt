use Rattle.std.proofs.Common.{[], ◌∷◌, refl, subst}
use Rattle.amqp_ser.specs.declared.kind.CompoundKind.TheVariants.{Single}
use Rattle.amqp_ser.proofs.Single.{whole_single}
use Rattle.amqp_ser.proofs.compound.described.end_single.Goals as goal

pub returns : goal.returns
returns g c = λ start p h. subst (λ t. g.S.Serializer.permits start t c.end.result c.end.new.self) (whole_single p) (c.end.ensures start Single (p ∷ []) h refl)
