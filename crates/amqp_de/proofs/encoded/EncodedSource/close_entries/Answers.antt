use Rattle.std.proofs.Common.{rules, ◌≡◌, [], length, suc, arith, refl}
use Rattle.std.proofs.lemmas.Grind.{common_steps}
use Rattle.amqp_decode.specs.Parsed.{parse}
use Rattle.amqp_decode.specs.WithoutBytes.{elements_without_bytes}
use Rattle.amqp_decode.proofs.Whole.{nil-from_length}
use Rattle.amqp_de.proofs.EncodedCounts.{closed_entry_counts}
use Rattle.amqp_de.proofs.EncodedLemmas.{closed_entries}
use Rattle.amqp_de.proofs.encoded.EncodedSource.close_entries.Goals as goal

pub returns-then-is_empty-clause-ok : goal.returns-then-is_empty-clause-ok
returns-then-is_empty-clause-ok c =
    let es = c.args.entries in
    let f = parse (suc es.depth) in
    let done : es.left ≡ 0 = search rules in
    let none : length es.bytes.now ≡ 0 = grind (arith, common_steps) in (
      [],
      (closed_entries f es.left es.bytes.now done (nil-from_length es.bytes.now none), closed_entry_counts (elements_without_bytes (suc es.depth)) f es.left es.bytes.now done),
      ([], refl),
    )
