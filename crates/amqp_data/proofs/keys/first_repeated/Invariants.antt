use Rattle.std.proofs.Common.{take}
use Rattle.std.specs.Map.{keys_of}
use Rattle.amqp_data.specs.Pairs.{AreDistinct}
use Rattle.amqp_data.proofs.keys.first_repeated.Given as goal

-- the keys so far are distinct
abbrev pub invariant-loop-i : goal.invariant-loop-i
invariant-loop-i g l = AreDistinct g.K.PartialEq.eq (keys_of (take l.i l.entries))
