use Rattle.amqp_de.proofs.Nulls.{no_option}
use Rattle.amqp_de.proofs.field_kind.OptionFieldKind.law.Goals as goal

pub returns : goal.returns
returns g c x y e absent = no_option g.V.Deserialize.same x y e absent
