use Rattle.std.proofs.Common.{◌≡◌, ℕ, ◌+◌, ◌<◌, true, get_or, is_lt}
use Rattle.amqp_data.proofs.keys.ascends.Given as goal

-- each key so far is greater than the one before it
abbrev pub invariant-loop-i : goal.invariant-loop-i
invariant-loop-i g l =
    (k : ℕ) (d : g.row.K.Denot × g.row.V.Denot) → k + 1 < l.i → true ≡ is_lt (g.K.Ord.cmp (get_or l.entries k d).0 (get_or l.entries (k + 1) d).0)
