use Rattle.std.proofs.Common.{◌≡◌, ◌∙◌, true, sym, subst, rules}
use Rattle.std.specs.Map.{keys_of}
use Rattle.amqp_data.specs.Pairs as pairs
use Rattle.amqp_data.proofs.IndexLemmas.{on_true}
use Rattle.amqp_data.proofs.PairLemmas.{insert_pairs_distinct}
use Rattle.amqp_de.proofs.impls.maps.once_each.Goals as goal

pub returns-then-keys_differ : goal.returns-then-keys_differ
returns-then-keys_differ g c =
    let entries = c.args.entries.items in
    let whole : c.deref.result.now ≡ entries = search rules in
    let sure : c.keys_differ.result ≡ true = search rules in
    let differ = subst (λ es. pairs.AreDistinct g.K.PartialEq.eq (keys_of es)) whole (on_true _ _ sure c.keys_differ.ensures) in
    c.from_distinct.ensures ∙ sym (insert_pairs_distinct g.K.PartialEq.eq g.met.K.Eq.laws.symm entries differ)
