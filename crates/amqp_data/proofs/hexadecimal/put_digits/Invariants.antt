use Rattle.std.proofs.Common.{◌≡◌, ◌+◌, ◌*◌, ◌++◌, take}
use Rattle.amqp_data.specs.Hexadecimal.{hex}
use Rattle.amqp_data.proofs.hexadecimal.put_digits.Given as goal

-- the digits of the bytes so far stand from the offset on
abbrev pub invariant-loop-index : goal.invariant-loop-index
invariant-loop-index l = take (l.at + 2 * l.index) l.text ≡ take l.at l.initial.text ++ hex (take l.index l.bytes)
