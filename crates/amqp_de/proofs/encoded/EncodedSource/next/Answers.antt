use Rattle.std.proofs.Common.{rules, ◌≡◌, ◌∷◌, [], length, suc, ap, ◌∙◌, arith}
use Rattle.std.proofs.lemmas.Grind.{common_steps}
use Rattle.amqp_decode.specs.Parsed.{parse}
use Rattle.amqp_decode.specs.WithoutBytes.{elements_without_bytes}
use Rattle.amqp_decode.proofs.Whole.{nil-from_length}
use Rattle.amqp_de.specs.EncodedTrees.{element_reader}
use Rattle.amqp_de.proofs.EncodedCounts.{own_counts, item_counts}
use Rattle.amqp_de.proofs.EncodedLemmas.{next_own, next_item, none_left, no_bytes}
use Rattle.amqp_de.proofs.encoded.EncodedSource.next.Goals as goal
use Rattle.amqp_de.proofs.encoded.EncodedSource.next.Goals.{then-code-eq0+in-Some, else-code-eq0}

pub returns-then-elements-eq0-clause-none : goal.returns-then-elements-eq0-clause-none
returns-then-elements-eq0-clause-none c ts held =
    let es = c.args.elements.now in
    let (empty, old) = none_left (element_reader es.depth es.constructor) es.left es.bytes.now ts c.if-elements-eq0.true held.0 in
    (empty, (old, held.1))

pub returns-in-None-clause-none : goal.returns-in-None-clause-none
returns-in-None-clause-none c ts held =
    let es = c.args.elements.now in
    let own : es.constructor ≡ 0 = search rules in
    let none : length es.bytes.now ≡ 0 = grind (arith, common_steps) in
    no_bytes es.depth es.constructor es.left es.bytes.now ts own c.if-elements-eq0.false (nil-from_length es.bytes.now none) held.0

pub returns-clause-some : goal.returns-clause-some
returns-clause-some c r ts left waits =
    let es = c.args.elements.now in
    let q = c.if-code-eq0 in
    elim q.branch [
      | then-code-eq0+in-Some w ↦
          let own : es.constructor ≡ 0 = search rules in
          let whole : es.bytes.now ≡ q.code ∷ q.bytes.now = search rules in
          let parsed = ap (parse (suc es.depth)) whole ∙ left.0 in
          let none : elements_without_bytes (suc es.depth) es.bytes.now ≡ 0 = ap (elements_without_bytes (suc es.depth)) whole ∙ left.1 in (
            next_own es.depth es.constructor es.left es.bytes.now r.now _ ts own c.if-elements-eq0.false parsed waits.0,
            own_counts es.depth es.constructor es.left es.bytes.now r.now _ own c.if-elements-eq0.false parsed none waits.1,
          )
      | else-code-eq0 w ↦
          let whole : es.constructor ∷ es.bytes.now ≡ q.code ∷ q.bytes.now = search rules in
          let parsed = ap (parse (suc es.depth)) whole ∙ left.0 in
          let none : elements_without_bytes (suc es.depth) (es.constructor ∷ es.bytes.now) ≡ 0 = ap (elements_without_bytes (suc es.depth)) whole ∙ left.1 in (
            next_item es.depth es.constructor es.left es.bytes.now r.now _ ts w.if-code-eq0.false c.if-elements-eq0.false parsed waits.0,
            item_counts es.depth es.constructor es.left es.bytes.now r.now _ w.if-code-eq0.false c.if-elements-eq0.false parsed none waits.1,
          )
    ]
