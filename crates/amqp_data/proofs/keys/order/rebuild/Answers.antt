use Rattle.std.proofs.Common.{◌≡◌, [], ◌∷◌, length, get_or, position, sym, ap, ◌∙◌, arith, length-append}
use Rattle.std.specs.Vec.Iter.{into_iter_items}
use Rattle.amqp_data.specs.Pairs.{insert_pair}
use Rattle.amqp_data.specs.KeyPositions.{key_positions}
use Rattle.amqp_data.proofs.OrderLemmas.{place_position, places_at, places_length, taken_one}
use Rattle.amqp_data.proofs.PairLemmas.{insert_pairs_push}
use Rattle.amqp_data.proofs.keys.order.rebuild.Goals as goal

pub prove-unreachable-requires : goal.prove-unreachable-requires
prove-unreachable-requires g c =
    let split = taken_one c.into_iter-key-iterator.result c.loop-key.yielded _ (c.in-Some.key, c.in-Some.value) c.next.new.self c.loop-key.yielded_by c.in-Some.ensures.steps in
    let all = c.into_iter-key-iterator.ensures.into_iter_gives.0 in
    let long = ap length (sym all ∙ split) ∙ length-append c.loop-key.yielded ((c.in-Some.key, c.in-Some.value) ∷ into_iter_items c.next.new.self) in
    let found = ap length c.requires ∙ places_length g.K.PartialEq.eq c.args.entries.items [] in
    omega (arith, c.loop-key.invariant.count, long, found)

pub put-requires : goal.put-requires
put-requires g c =
    let eq = g.K.PartialEq.eq in
    let e : g.row.K.Denot × g.row.V.Denot = (c.in-Some.key, c.in-Some.value) in
    let split = taken_one c.into_iter-key-iterator.result c.loop-key.yielded _ e c.next.new.self c.loop-key.yielded_by c.in-Some.ensures.steps in
    let all = c.into_iter-key-iterator.ensures.into_iter_gives.0 in
    let d = c.index-at.result.now in
    c.index-at.ensures ∙ (λ j. get_or (c.requires j) (c.loop-key.invariant.count j) d)
    ∙ ap (λ es. get_or (key_positions eq es []) (length c.loop-key.yielded) d) (sym all ∙ split)
    ∙ places_at eq c.loop-key.yielded e (into_iter_items c.next.new.self) [] d
    ∙ place_position eq c.in-Some.key _
    ∙ ap (λ es. position (λ x. eq c.in-Some.key x.0) es) (sym c.loop-key.invariant.made)

pub loop-key-preserved : goal.loop-key-preserved
loop-key-preserved g c =
    let eq = g.K.PartialEq.eq in
    let e : g.row.K.Denot × g.row.V.Denot = (c.in-Some.key, c.in-Some.value) in record {
      count = omega (arith, c.loop-key.invariant.count, length-append c.loop-key.yielded (e ∷ []));
      made = c.in_ok-put.ensures ∙ ap (λ es. insert_pair eq es c.in-Some.key c.in-Some.value) c.loop-key.invariant.made ∙ sym (insert_pairs_push eq c.loop-key.yielded e []);
    }
