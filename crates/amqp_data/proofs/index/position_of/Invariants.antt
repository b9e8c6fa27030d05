use Rattle.std.proofs.Common.{◌≡◌, ℕ, ◌<◌, false, get_or}
use Rattle.amqp_data.proofs.index.position_of.Given as goal

-- the keys so far are unequal
abbrev pub invariant-loop-i : goal.invariant-loop-i
invariant-loop-i g l =
    (j : ℕ) (d : g.row.K.Denot × g.row.V.Denot) → j < l.i → g.K.PartialEq.eq l.key (get_or l.entries j d).0 ≡ false
