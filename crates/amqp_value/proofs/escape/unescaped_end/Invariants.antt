use Rattle.std.proofs.Common.{◌≡◌, ◌+◌, ◌-◌, ◌≤◌, ◌++◌, length, take, drop}
use Rattle.std.specs.List.{flat_map}
use Rattle.amqp_value.specs.EscapedBytes.{byte_escaped}
use Rattle.amqp_value.proofs.escape.unescaped_end.Given as goal

abbrev pub decreases-loop-to : goal.decreases-loop-to
decreases-loop-to l = length l.bytes - l.to

-- The bytes so far have no escapes.
abbrev pub invariant-loop-to : goal.invariant-loop-to
invariant-loop-to l =
    record {
      low : l.from + 1 ≤ l.to;
      high : l.to ≤ length l.bytes;
      plain : flat_map byte_escaped (take l.to l.bytes) ≡ flat_map byte_escaped (take l.from l.bytes) ++ take (l.to - l.from) (drop l.from l.bytes);
    }

abbrev pub decreases-loop-to-2 : goal.decreases-loop-to-2
decreases-loop-to-2 l = length l.bytes - l.to

abbrev pub invariant-loop-to-2 : goal.invariant-loop-to-2
invariant-loop-to-2 l =
    record {
      low : l.from + 1 ≤ l.to;
      high : l.to ≤ length l.bytes;
      plain : flat_map byte_escaped (take l.to l.bytes) ≡ flat_map byte_escaped (take l.from l.bytes) ++ take (l.to - l.from) (drop l.from l.bytes);
    }
