use Rattle.std.proofs.Common.{rules}
use Rattle.amqp_value.specs.Converts.{PairFits}
use Rattle.amqp_value.proofs.Zips.{first_fits, pair_stops}
use Rattle.amqp_value.proofs.try_from.pairs.convert_pairs.Goals as goal

pub returns-in_err-key : goal.returns-in_err-key
returns-in_err-key g c =
    pair_stops g.K.TryFrom.try_from_gives g.V.TryFrom.try_from_gives _ c.args.pairs.items c.into_iter-key-iterator.result c.loop-key.yielded _ (c.in-Some.key, c.in-Some.value) c.next.new.self c.loop-key.invariant.0 _ _
    c.into_iter-key-iterator.ensures.into_iter_gives.0 c.loop-key.yielded_by c.in-Some.ensures.steps c.loop-key.invariant.1 c.in_err-key.ensures (search rules)

pub returns-then-not-put : goal.returns-then-not-put
returns-then-not-put g c =
    first_fits (PairFits g.K.TryFrom.try_from_gives g.V.TryFrom.try_from_gives) c.args.pairs.items c.into_iter-key-iterator.result c.loop-key.yielded _ (c.in-Some.key, c.in-Some.value) c.next.new.self c.loop-key.invariant.0 (c.in_ok-key.key, c.in_ok-key.value)
    c.into_iter-key-iterator.ensures.into_iter_gives.0 c.loop-key.yielded_by c.in-Some.ensures.steps c.loop-key.invariant.1 c.in_ok-key.ensures
