use Rattle.std.proofs.lemmas.Map.Iter.{rest_more}
use Rattle.std.specs.Map.Iter.{deref_pair}
use Rattle.amqp_ser.proofs.Entries.{accepted_entry}
use Rattle.amqp_ser.specs.declared.kind.CompoundKind.TheVariants.{Map}
use Rattle.amqp_ser.proofs.impls.maps.OrderedMapSerialize.serialize.Goals as goal

pub loop-key-preserved : goal.loop-key-preserved
loop-key-preserved g c =
    let inv = c.loop-key.invariant in
    let more = rest_more deref_pair _ _ _ (c.in-Some.key, c.in-Some.value) c.in-Some.is c.next.ensures.steps in
    let accepted = c.in_ok-serialize_entry.ensures.step inv.no_key _ inv.accepted.0 inv.accepted.1 inv.accepted.2 in
    let has = g.S.Serializer.has c.args.serializer.now Map in
    record { same = cc; no_key = cc; accepted = accepted_entry g.K.Serialize.tree g.V.Serialize.tree (has c.loop-key.map.serializer.now c.loop-key.map.compound) _ _ _ _ _ more inv.accepted accepted }
