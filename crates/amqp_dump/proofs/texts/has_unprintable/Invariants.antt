use Rattle.std.proofs.Common.{◌≡◌, false, take}
use Rattle.std.specs.List.{flat_map}
use Rattle.amqp_dump.specs.Safe.{safe_char}
use Rattle.amqp_dump.proofs.texts.has_unprintable.Given as goal

-- None of the bytes so far is escaped if all of them are printable.
abbrev pub invariant-loop-index : goal.invariant-loop-index
invariant-loop-index l = l.found ≡ false → flat_map safe_char (take l.index l.bytes) ≡ take l.index l.bytes
