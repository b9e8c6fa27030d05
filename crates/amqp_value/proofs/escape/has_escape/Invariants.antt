use Rattle.std.proofs.Common.{◌≡◌, false, take}
use Rattle.std.specs.List.{flat_map}
use Rattle.amqp_value.specs.EscapedBytes.{byte_escaped}
use Rattle.amqp_value.proofs.escape.has_escape.Given as goal

-- None of the bytes so far has an escape if none was found.
abbrev pub invariant-loop-index : goal.invariant-loop-index
invariant-loop-index l = l.found ≡ false → flat_map byte_escaped (take l.index l.bytes) ≡ take l.index l.bytes
