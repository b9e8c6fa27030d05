use Rattle.std.proofs.Common.{◌-◌, length, take}
use Rattle.std.specs.List.{flat_map}
use Rattle.std.specs.Fmt.{IsPlainFormatter, HasWritten}
use Rattle.std.specs.Str.{IsCharBoundary}
use Rattle.amqp_value.specs.EscapedBytes.{byte_escaped}
use Rattle.amqp_value.proofs.escape.escape_all.Given as goal

abbrev pub decreases-loop-from : goal.decreases-loop-from
decreases-loop-from g l = length l.bytes - l.from

-- The bytes so far are written, and whole characters.
abbrev pub invariant-loop-from : goal.invariant-loop-from
invariant-loop-from g l =
    record {
      boundary : IsCharBoundary l.bytes l.from;
      written : IsPlainFormatter l.initial.f → HasWritten g.W.Write.write_str_gives l.initial.f (flat_map byte_escaped (take l.from l.bytes)) l.f;
    }
