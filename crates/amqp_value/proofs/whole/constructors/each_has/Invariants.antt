use Rattle.std.proofs.Common.{◌≡◌, ◌<◌, Some, true, drop}
use Rattle.amqp_ser.specs.Writable.{each_constructor}
use Rattle.amqp_value.specs.Measured.{HaveRanges}
use Rattle.amqp_value.specs.TreeOf.{all_of}
use Rattle.amqp_value.proofs.whole.constructors.each_has.Given as goal

-- If the rest have the constructor and are in range, all have and are.
abbrev pub invariant-loop-item : goal.invariant-loop-item
invariant-loop-item l =
    (0 < l.code → each_constructor (Some l.code) (all_of (drop l.item-index l.items)) ≡ true → each_constructor (Some l.code) (all_of l.items) ≡ true)
    × (HaveRanges (all_of (drop l.item-index l.items)) → HaveRanges (all_of l.items))
