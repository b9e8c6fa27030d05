use Rattle.amqp_data.specs.Pairs.{entries_of}
use Rattle.amqp_from_value.proofs.KeyLemmas.{distinct_differ}
use Rattle.amqp_from_value.proofs.MapLemmas.{map_has_image}
use Rattle.amqp_from_value.proofs.maps.OrderedMapRoundTrip.law.Goals as goal

pub returns : goal.returns
returns g c = λ x r.
    let k = g.K.Deserialize in
    let v = g.V.Deserialize in
    let es = entries_of x in
    map_has_image g.K.Serialize.tree k.image g.V.Serialize.tree v.image k.restorable v.restorable c.law.ensures c.law-2.ensures es r.0
    (distinct_differ k.image k.restorable k.same v.restorable c.image_is_injective.ensures g.K.PartialEq.eq g.met.K.Eq.laws es r.0 r.1)
