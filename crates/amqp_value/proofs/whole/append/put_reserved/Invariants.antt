use Rattle.std.proofs.Common.{◌≡◌, ◌++◌, take}
use Rattle.std.specs.Vec.{vec_capacity}
use Rattle.amqp_value.proofs.whole.append.put_reserved.Given as goal

-- The bytes before this one are appended.
abbrev pub invariant-loop-byte : goal.invariant-loop-byte
invariant-loop-byte l =
    record {
      written : l.out.items ≡ l.initial.out.items ++ take l.byte-index l.bytes;
      capacity : vec_capacity l.out ≡ vec_capacity l.initial.out;
    }
