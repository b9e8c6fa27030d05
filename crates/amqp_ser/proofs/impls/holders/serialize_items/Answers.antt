use Rattle.std.proofs.Common.{rules, ◌≡◌, ◌++◌, ◌∷◌, map, take, drop, ap, ◌+◌}
use Rattle.amqp_ser.proofs.Feeding.{map-at, moved}
use Rattle.amqp_ser.specs.Compounds.{tree_of_parts}
use Rattle.amqp_ser.specs.declared.kind.CompoundKind.TheVariants.{List}
use Rattle.amqp_ser.proofs.impls.holders.serialize_items.Goals as goal

pub returns-in_err-serialize_element : goal.returns-in_err-serialize_element
returns-in_err-serialize_element g c =
    let i = c.loop-item.item-index in
    let xs = c.args.items.now in
    let tree = g.T.Serialize.tree in
    let accepted = (c.in_err-serialize_element.ensures.step _ _ c.loop-item.invariant.accepted).1 (map tree (drop (i + 1) xs)) in
    let e = map-at tree xs i c.item-item.result c.loop-item-test.true in
    let same : map tree (take i xs) ++ (tree c.item-item.result ∷ map tree (drop (i + 1) xs)) ≡ map tree xs = cc in
    moved (g.S.Serializer.permits c.args.serializer.now) (ap (tree_of_parts List) same) (search rules) (search rules) accepted
