use Rattle.std.proofs.Common.{List, sym, subst}
use Rattle.std.specs.Map.{keys_of}
use Rattle.amqp_data.specs.Pairs.{AreDistinct}
use Rattle.amqp_data.proofs.PairLemmas.{insert_pairs_distinct}
use Rattle.amqp_data.proofs.keys.once_each_by_pairs.Goals as goal

pub returns-in-None : goal.returns-in-None
returns-in-None g c =
    let eq = g.K.PartialEq.eq in
    sym (insert_pairs_distinct eq g.met.K.Eq.laws.symm c.args.entries.items
    (subst (λ (es : List (_ × _)). AreDistinct eq (keys_of es)) c.deref.ensures.value c.in-None.ensures.none))
