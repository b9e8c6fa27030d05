use Rattle.std.proofs.Common.{◌≡◌, ◌++◌, ℕ, List, length}
use Rattle.amqp_messaging.specs.Parts.{AreAll}
use Rattle.amqp_messaging.proofs.message.parts.take_all.Given as goal

abbrev pub invariant-loop-kind : goal.invariant-loop-kind
invariant-loop-kind l = (taken : List ℕ) × AreAll l.kind taken × (l.bytes ≡ taken ++ l.rest)

abbrev pub decreases-loop-kind : goal.decreases-loop-kind
decreases-loop-kind l = length l.rest
