use Rattle.amqp_value.proofs.InsertedLemmas.{gives_weaker}
use Rattle.amqp_value.proofs.try_from.maps.convert_hashed.Goals as goal

pub returns : goal.returns
returns g c = gives_weaker g.K.TryFrom.try_from_gives g.V.TryFrom.try_from_gives _ _ (λ done map holds. holds.0) c.args.pairs.items c.convert_pairs.result c.convert_pairs.ensures
