use Rattle.std.proofs.Common.{◌≡◌, true, sym, subst, rules}
use Rattle.std.specs.Map.{keys_of}
use Rattle.amqp_data.specs.Pairs.{AreDistinct}
use Rattle.amqp_data.proofs.IndexLemmas.{on_true}
use Rattle.amqp_data.proofs.PairLemmas.{insert_pairs_distinct}
use Rattle.amqp_value.specs.Equal.{equal}
use Rattle.amqp_value.proofs.ValueKeys.{equal-symmetric}
use Rattle.amqp_value.proofs.map_builder.distinct.Goals as goal

pub returns-then-ascends : goal.returns-then-ascends
returns-then-ascends c =
    let sure : c.ascends.result ≡ true = search rules in
    let differ = subst (λ es. AreDistinct equal (keys_of es)) c.deref.ensures.value (on_true _ _ sure c.ascends.ensures) in
    sym (insert_pairs_distinct equal equal-symmetric c.args.pairs.items differ)
