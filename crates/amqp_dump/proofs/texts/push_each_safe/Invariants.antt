use Rattle.std.proofs.Common.{◌≡◌, ◌++◌, flat_map, string_bytes}
use Rattle.amqp_dump.specs.Safe.{safe_char}
use Rattle.amqp_dump.proofs.texts.push_each_safe.Given as goal

abbrev pub invariant-loop-character : goal.invariant-loop-character
invariant-loop-character l =
    string_bytes l.text ≡ string_bytes l.initial.text ++ flat_map safe_char l.yielded
