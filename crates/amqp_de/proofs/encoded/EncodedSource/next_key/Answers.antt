use Rattle.std.proofs.Common.{rules, ◌≡◌, ◌∷◌, [], length, suc, ap, ◌∙◌, arith}
use Rattle.std.proofs.lemmas.Grind.{common_steps}
use Rattle.amqp_decode.specs.Parsed.{parse}
use Rattle.amqp_decode.specs.WithoutBytes.{elements_without_bytes}
use Rattle.amqp_decode.proofs.Whole.{nil-from_length}
use Rattle.amqp_de.proofs.EncodedCounts.{pair_counts}
use Rattle.amqp_de.proofs.EncodedLemmas.{pair_collected, none_collected, no_entry_bytes, when_none}
use Rattle.amqp_de.proofs.encoded.EncodedSource.next_key.Goals as goal

pub returns-then-entries-eq0-clause-none : goal.returns-then-entries-eq0-clause-none
returns-then-entries-eq0-clause-none c ps held =
    let es = c.args.entries.now in
    let (empty, old) = none_collected (parse (suc es.depth)) es.left es.bytes.now ps c.if-entries-eq0.true held.0 in
    (empty, (old, held.1))

pub returns-clause-some : goal.returns-clause-some
returns-clause-some c r t ps left waits =
    let es = c.args.entries.now in
    let whole : es.bytes.now ≡ c.in_ok-code.code.now ∷ c.in_ok-code.bytes.now = search rules in
    let key = ap (parse (suc es.depth)) whole ∙ left.0 in
    let none : elements_without_bytes (suc es.depth) es.bytes.now ≡ 0 = ap (elements_without_bytes (suc es.depth)) whole ∙ left.1 in
    let (mid, value, none_there, held) = waits in (
      pair_collected (parse (suc es.depth)) es.left es.bytes.now r.now mid _ t ps c.if-entries-eq0.false key value held.0,
      pair_counts (elements_without_bytes (suc es.depth)) (parse (suc es.depth)) es.left es.bytes.now r.now mid _ t c.if-entries-eq0.false key value none none_there held.1,
    )

pub returns-in_err-code-clause-none : goal.returns-in_err-code-clause-none
returns-in_err-code-clause-none c =
    let es = c.args.entries.now in
    let none : length es.bytes.now ≡ 0 = grind (arith, common_steps) in
    when_none c.from_residual.result (λ ps held. no_entry_bytes es.depth es.left es.bytes.now ps c.if-entries-eq0.false (nil-from_length es.bytes.now none) held.0)
