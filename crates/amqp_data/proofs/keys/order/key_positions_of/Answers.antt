use Rattle.std.proofs.Common.{◌≡◌, ◌+◌, [], ◌∷◌, ◌++◌, List, get_or, take, rules, sym, ap, ◌∙◌, subst}
use Rattle.std.proofs.lemmas.List.{take_more}
use Rattle.amqp_data.specs.Pairs.{insert_pairs}
use Rattle.amqp_data.specs.KeyPositions.{Indexes, key_positions}
use Rattle.amqp_data.proofs.OrderLemmas.{places_push}
use Rattle.amqp_data.proofs.PairLemmas.{insert_pairs_push}
use Rattle.amqp_data.proofs.keys.order.key_positions_of.Goals as goal

pub loop-entry-preserved : goal.loop-entry-preserved
loop-entry-preserved g c =
    let eq = g.K.PartialEq.eq in
    let x = c.entry-item.result in
    let i = c.loop-entry.entry-index in
    let before = take i c.args.entries.now in
    let key_position : get_or c.args.entries.now i x ≡ x = search rules in
    let more : take (i + 1) c.args.entries.now ≡ before ++ x ∷ [] =
    take_more c.args.entries.now i x c.loop-entry-test.true ∙ ap (λ (e : _ × _). before ++ e ∷ []) key_position in
    let new = c.in_ok-at.ensures (insert_pairs eq before []) c.loop-entry.invariant.index in record {
      found = c.in_ok-push.ensures.items ∙ (λ j. c.loop-entry.invariant.found j ++ new.0 j ∷ []) ∙ sym (ap (λ es. key_positions eq es []) more ∙ places_push eq before x []);
      index = subst (λ (es : List (_ × _)). Indexes eq g.K.Ord.cmp es c.find_or_add.new.index) (sym (ap (λ es. insert_pairs eq es []) more ∙ insert_pairs_push eq before x [])) (new.1 x.1);
    }
