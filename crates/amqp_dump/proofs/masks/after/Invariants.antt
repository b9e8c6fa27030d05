use Rattle.std.proofs.Common.{◌≡◌, ◌++◌, false, length}
use Rattle.amqp_dump.specs.Masks.{mask_after}
use Rattle.amqp_dump.proofs.masks.after.Given as goal

abbrev pub invariant-loop-is_match : goal.invariant-loop-is_match
invariant-loop-is_match l =
    l.mask.items ++ mask_after l.is_descriptor l.starts l.came l.matches l.opens
    ≡ mask_after l.is_descriptor l.is_start false l.matched l.before

abbrev pub decreases-loop-is_match : goal.decreases-loop-is_match
decreases-loop-is_match l = length l.matches
