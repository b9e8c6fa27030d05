use Rattle.std.proofs.Common.{◌≡◌, ◌*◌, take}
use Rattle.amqp_data.specs.Hexadecimal.{hex}
use Rattle.amqp_data.proofs.hexadecimal.put_whole.Given as goal

-- the digits of the bytes so far stand at the front
abbrev pub invariant-loop-index : goal.invariant-loop-index
invariant-loop-index l = take (2 * l.index) l.digits ≡ hex (take l.index l.bytes)
