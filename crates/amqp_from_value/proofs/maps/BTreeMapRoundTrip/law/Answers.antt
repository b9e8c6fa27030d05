use Rattle.amqp_from_value.proofs.KeyLemmas.{ascending_differ}
use Rattle.amqp_from_value.proofs.MapLemmas.{map_has_image}
use Rattle.amqp_from_value.proofs.maps.BTreeMapRoundTrip.law.Goals as goal

pub returns : goal.returns
returns g c = λ x r.
    let k = g.K.Deserialize in
    let v = g.V.Deserialize in
    map_has_image g.K.Serialize.tree k.image g.V.Serialize.tree v.image k.restorable v.restorable c.law.ensures c.law-2.ensures x.entries r.0
    (ascending_differ k.image k.restorable k.same v.restorable c.image_is_injective.ensures g.K.Ord.cmp g.met.K.Ord.total x.entries r.0 r.1)
