use Rattle.std.proofs.Common.{◌-◌, length, take}
use Rattle.std.specs.Fmt.{IsPlainFormatter, HasWritten}
use Rattle.amqp_data.specs.Hexadecimal.{hex}
use Rattle.amqp_data.proofs.hexadecimal.write_hexadecimal.Given as goal

abbrev pub decreases-loop-from : goal.decreases-loop-from
decreases-loop-from g l = length l.bytes - l.from

-- the digits of the bytes so far have been written
abbrev pub invariant-loop-from : goal.invariant-loop-from
invariant-loop-from g l = IsPlainFormatter l.initial.f → HasWritten g.W.Write.write_str_gives l.initial.f (hex (take l.from l.bytes)) l.f
