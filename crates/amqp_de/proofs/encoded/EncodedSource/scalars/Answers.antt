use Rattle.std.proofs.Common.{rules, ◌≡◌, sym}
use Rattle.amqp_ser.specs.Tree.{scalar}
use Rattle.amqp_de.proofs.EncodedCounts.{scalars_counts}
use Rattle.amqp_de.proofs.EncodedLemmas.{items_filled, own_filled}
use Rattle.amqp_de.proofs.encoded.EncodedSource.scalars.Goals as goal

pub returns-in-Ok-clause-ok : goal.returns-in-Ok-clause-ok
returns-in-Ok-clause-ok g c =
    let es = c.args.elements in
    let (ts, all, zip) = items_filled (λ t x. t ≡ scalar (g.K.Scalar.content x)) es.depth es.constructor es.left es.bytes.now c.in-Ok.items.items c.if-elements-ne0.true (c.in-Ok.ensures es.depth) in
    (ts, (all, scalars_counts g.K.Scalar.content es.depth es.constructor es.left es.bytes.now ts c.in-Ok.items.items all zip), zip)

pub returns-in-Ok-list_scalars-clause-ok : goal.returns-in-Ok-list_scalars-clause-ok
returns-in-Ok-list_scalars-clause-ok g c =
    let es = c.args.elements in
    let xs = c.in-Ok-list_scalars.items.items in
    let own : es.constructor ≡ 0 = search rules in
    let (ts, all, zip) = own_filled (λ t x. t ≡ scalar (g.K.Scalar.content x)) es.depth es.constructor es.left es.bytes.now xs own (c.in-Ok-list_scalars.ensures es.depth) in
    (ts, (all, scalars_counts g.K.Scalar.content es.depth es.constructor es.left es.bytes.now ts xs all zip), zip)
