use Rattle.std.proofs.Common.{arith}
use Rattle.amqp_data.proofs.OrderLemmas.{ascending_distinct}
use Rattle.amqp_data.proofs.keys.ascends.Goals as goal

pub returns : goal.returns
returns g c =
    ascending_distinct g.K.PartialEq.eq g.K.Ord.cmp g.met.K.Ord.total g.met.K.Ord.matches_eq c.args.entries.now
    (λ k d below. c.loop-i.invariant k d (omega (arith, below, c.loop-i-test.false)))
