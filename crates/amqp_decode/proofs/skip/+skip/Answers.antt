use Rattle.std.proofs.Common.{rules, min, true, ◌≡◌, ◌∷◌, ◌+◌, ◌-◌, ◌%◌, ◌<◌, Some, None, IfOk, IfErr, OnErr, sym, ap, ◌∙◌, subst, length, arith}
use Rattle.amqp_data.specs.FormatCode.{code_of}
use Rattle.amqp_frame.specs.Code.{category}
use Rattle.amqp_ser.specs.Tree as tree
use Rattle.amqp_ser.specs.Tree.{Tree}
use Rattle.amqp_decode.specs.Codes.{primitive_of, shape_of_code}
use Rattle.amqp_decode.specs.Parsed.{value_in_bytes, parse, parse_content, payload_in}
use Rattle.amqp_decode.specs.Places.{place_around, place_in, place_in_item}
use Rattle.amqp_decode.specs.PlaceAt.{IsAt}
use Rattle.amqp_decode.specs.WithoutBytes.{has_no_payload}
use Rattle.amqp_decode.specs.declared.payload.PayloadShape.TheVariants as shape
use Rattle.amqp_decode.proofs.SkipLemmas.{bare-array, content-shorter, counted-shorter, described-ok, first-skips, first-places, item-as, item-from_end-at, item-from_end-zero, items-found, items-from_end, list-content, map-content, no_items, no_list-content, no_map-content, odd-shorter, on-err, on-ok, parse-code, parse-no_code, scalar-found, skips-filled, skips-left, skips-none, skips-step, from_end-at, from_end-code, from_end-empty, from_end-no_code, from_end-zero, places-end, places-here, places-step}
use Rattle.amqp_decode.proofs.Steps.{item-zero, parse-at, parse-empty, parse-zero}
use Rattle.amqp_decode.proofs.skip.+skip.Goals as goal

pub skip_value-returns-then-depth-eq0-clause-err : goal.skip_value-returns-then-depth-eq0-clause-err
skip_value-returns-then-depth-eq0-clause-err t c =
    parse-zero c.args.depth c.args.bytes.now c.if-depth-eq0.true

pub skip_value-returns-then-depth-eq0-clause-from_end : goal.skip_value-returns-then-depth-eq0-clause-from_end
skip_value-returns-then-depth-eq0-clause-from_end t c =
    let e = from_end-zero c.args.depth c.args.after c.args.bytes.now c.if-depth-eq0.true in
    let left = ap (λ q. q.0) e in
    let level = ap (λ q. q.1) e in
    search (rules, left, level)

pub skip_value-returns-in_default-clause-err : goal.skip_value-returns-in_default-clause-err
skip_value-returns-in_default-clause-err t c =
    parse-empty c.args.depth c.args.bytes.now (omega (arith, c.if-depth-eq0.false)) (search rules)

pub skip_value-returns-in_default-clause-from_end : goal.skip_value-returns-in_default-clause-from_end
skip_value-returns-in_default-clause-from_end t c =
    let e = from_end-empty c.args.depth c.args.after c.args.bytes.now (omega (arith, c.if-depth-eq0.false)) (search rules) in
    let left = ap (λ q. q.0) e in
    let level = ap (λ q. q.1) e in
    search (rules, left, level)

pub skip_value-returns-then-byte-eq0-clause-ok : goal.skip_value-returns-then-byte-eq0-clause-ok
skip_value-returns-then-byte-eq0-clause-ok t c =
    let bytes : c.args.bytes.now ≡ c.in-Some.byte.now ∷ c.in-Some.rest.now = search rules in
    let first : c.args.bytes.now ≡ 0 ∷ c.in-Some.rest.now = bytes ∙ ap (λ b. b ∷ c.in-Some.rest.now) c.if-byte-eq0.true in
    let same : value_in_bytes (parse (c.args.depth - 1)) (parse_content (c.args.depth - 1)) (0 ∷ c.in-Some.rest.now) ≡ parse c.args.depth c.args.bytes.now = sym (parse-at c.args.depth c.args.bytes.now (omega (arith, c.if-depth-eq0.false)) ∙ ap (value_in_bytes (parse (c.args.depth - 1)) (parse_content (c.args.depth - 1))) first) in
    subst (λ z. IfOk c.skip_described.result (λ rest. (t : Tree) × (z ≡ Some (t, rest.now)))) same c.skip_described.ensures.ok

pub skip_value-returns-then-byte-eq0-clause-err : goal.skip_value-returns-then-byte-eq0-clause-err
skip_value-returns-then-byte-eq0-clause-err t c =
    let bytes : c.args.bytes.now ≡ c.in-Some.byte.now ∷ c.in-Some.rest.now = search rules in
    let first : c.args.bytes.now ≡ 0 ∷ c.in-Some.rest.now = bytes ∙ ap (λ b. b ∷ c.in-Some.rest.now) c.if-byte-eq0.true in
    let same : value_in_bytes (parse (c.args.depth - 1)) (parse_content (c.args.depth - 1)) (0 ∷ c.in-Some.rest.now) ≡ parse c.args.depth c.args.bytes.now = sym (parse-at c.args.depth c.args.bytes.now (omega (arith, c.if-depth-eq0.false)) ∙ ap (value_in_bytes (parse (c.args.depth - 1)) (parse_content (c.args.depth - 1))) first) in
    subst (λ z. OnErr c.skip_described.result (z ≡ None)) same c.skip_described.ensures.err

pub skip_value-returns-then-byte-eq0-clause-from_end : goal.skip_value-returns-then-byte-eq0-clause-from_end
skip_value-returns-then-byte-eq0-clause-from_end t c =
    let bytes : c.args.bytes.now ≡ c.in-Some.byte.now ∷ c.in-Some.rest.now = search rules in
    let first : c.args.bytes.now ≡ 0 ∷ c.in-Some.rest.now = bytes ∙ ap (λ b. b ∷ c.in-Some.rest.now) c.if-byte-eq0.true in
    let same : place_around (c.args.depth - 1) c.args.after (0 ∷ c.in-Some.rest.now) ≡ place_in c.args.depth c.args.after c.args.bytes.now = ap (place_around (c.args.depth - 1) c.args.after) (sym first) ∙ from_end-at c.args.depth c.args.after c.args.bytes.now (omega (arith, c.if-depth-eq0.false)) in
    subst (λ z. IfErr c.skip_described.result (λ p. IsAt p z)) same c.skip_described.ensures.from_end

pub skip_value-returns-in_default-primitive_code-clause-err : goal.skip_value-returns-in_default-primitive_code-clause-err
skip_value-returns-in_default-primitive_code-clause-err t c =
    let bytes : c.args.bytes.now ≡ c.in-Some.byte.now ∷ c.in-Some.rest.now = search rules in
    let none : primitive_of c.in-Some.byte.now ≡ None = search rules in
    ap (parse c.args.depth) bytes ∙ parse-no_code c.args.depth c.args.after c.in-Some.byte.now c.in-Some.rest.now (omega (arith, c.if-depth-eq0.false)) c.if-byte-eq0.false none

pub skip_value-returns-in_default-primitive_code-clause-from_end : goal.skip_value-returns-in_default-primitive_code-clause-from_end
skip_value-returns-in_default-primitive_code-clause-from_end t c =
    let bytes : c.args.bytes.now ≡ c.in-Some.byte.now ∷ c.in-Some.rest.now = search rules in
    let none : primitive_of c.in-Some.byte.now ≡ None = search rules in
    let e = from_end-no_code c.args.depth c.args.after c.in-Some.byte.now c.in-Some.rest.now (omega (arith, c.if-depth-eq0.false)) c.if-byte-eq0.false none ∙ ap (place_in c.args.depth c.args.after) (sym bytes) in
    let left = ap (λ q. q.0) e in
    let level = ap (λ q. q.1) e in
    search (rules, left, level, ap length bytes)

pub skip_value-returns-clause-ok : goal.skip_value-returns-clause-ok
skip_value-returns-clause-ok t c =
    let bytes : c.args.bytes.now ≡ c.in-Some.byte.now ∷ c.in-Some.rest.now = search rules in
    let same = parse-code c.args.depth c.args.after c.in-Some.byte.now c.in-Some.rest.now (omega (arith, c.if-depth-eq0.false)) c.if-byte-eq0.false c.in-Ok.code c.in-Ok.ensures.ok ∙ ap (parse c.args.depth) (sym bytes) in
    subst (λ z. IfOk c.skip_payload.result (λ rest. (t : Tree) × (z ≡ Some (t, rest.now)))) same c.skip_payload.ensures.ok

pub skip_value-returns-clause-err : goal.skip_value-returns-clause-err
skip_value-returns-clause-err t c =
    let bytes : c.args.bytes.now ≡ c.in-Some.byte.now ∷ c.in-Some.rest.now = search rules in
    let same = parse-code c.args.depth c.args.after c.in-Some.byte.now c.in-Some.rest.now (omega (arith, c.if-depth-eq0.false)) c.if-byte-eq0.false c.in-Ok.code c.in-Ok.ensures.ok ∙ ap (parse c.args.depth) (sym bytes) in
    subst (λ z. OnErr c.skip_payload.result (z ≡ None)) same c.skip_payload.ensures.err

pub skip_value-returns-clause-from_end : goal.skip_value-returns-clause-from_end
skip_value-returns-clause-from_end t c =
    let bytes : c.args.bytes.now ≡ c.in-Some.byte.now ∷ c.in-Some.rest.now = search rules in
    let same = from_end-code c.args.depth c.args.after c.in-Some.byte.now c.in-Some.rest.now (omega (arith, c.if-depth-eq0.false)) c.if-byte-eq0.false c.in-Ok.code c.in-Ok.ensures.ok ∙ ap (place_in c.args.depth c.args.after) (sym bytes) in
    subst (λ z. IfErr c.skip_payload.result (λ p. IsAt p z)) same c.skip_payload.ensures.from_end

pub skip_described-returns-clause-ok : goal.skip_described-returns-clause-ok
skip_described-returns-clause-ok t c =
    described-ok (c.args.depth - 1) c.args.bytes.now c.in_ok-rest.rest.now c.skip_value.result (λ x. x.now) c.in_ok-rest.ensures.ok c.skip_value.ensures.ok

pub skip_item-returns-then-depth-eq0-clause-err : goal.skip_item-returns-then-depth-eq0-clause-err
skip_item-returns-then-depth-eq0-clause-err t c =
    item-zero c.args.depth c.args.code c.args.bytes.now c.if-depth-eq0.true

pub skip_item-returns-then-depth-eq0-clause-from_end : goal.skip_item-returns-then-depth-eq0-clause-from_end
skip_item-returns-then-depth-eq0-clause-from_end t c =
    let e = item-from_end-zero c.args.depth c.args.code c.args.after c.args.bytes.now c.if-depth-eq0.true in
    let left = ap (λ q. q.0) e in
    let level = ap (λ q. q.1) e in
    search (rules, left, level)

pub skip_item-returns-clause-ok : goal.skip_item-returns-clause-ok
skip_item-returns-clause-ok t c =
    subst (λ z. IfOk c.skip_payload.result (λ rest. (t : Tree) × (z ≡ Some (t, rest.now)))) (item-as c.args.depth c.args.code c.args.bytes.now (omega (arith, c.if-depth-eq0.false))) c.skip_payload.ensures.ok

pub skip_item-returns-clause-err : goal.skip_item-returns-clause-err
skip_item-returns-clause-err t c =
    subst (λ z. OnErr c.skip_payload.result (z ≡ None)) (item-as c.args.depth c.args.code c.args.bytes.now (omega (arith, c.if-depth-eq0.false))) c.skip_payload.ensures.err

pub skip_item-returns-clause-from_end : goal.skip_item-returns-clause-from_end
skip_item-returns-clause-from_end t c =
    subst (λ z. IfErr c.skip_payload.result (λ p. IsAt p z)) (item-from_end-at c.args.depth c.args.code c.args.after c.args.bytes.now (omega (arith, c.if-depth-eq0.false))) c.skip_payload.ensures.from_end

pub skip_payload-overflow_add-rest : goal.skip_payload-overflow_add-rest
skip_payload-overflow_add-rest t c =
    let short = content-shorter (category (code_of c.args.code)) c.args.bytes.now c.in-Ok.content.now c.in-Ok.rest.now c.in-Ok.ensures.ok in
    omega (arith, short, c.requires.fits)

pub skip_payload-check_content-requires : goal.skip_payload-check_content-requires
skip_payload-check_content-requires t c =
    let short = content-shorter (category (code_of c.args.code)) c.args.bytes.now c.in-Ok.content.now c.in-Ok.rest.now c.in-Ok.ensures.ok in
    let fits : length c.in-Ok.content.now + (length c.in-Ok.rest.now + c.args.after) < 18446744073709551616 = omega (arith, short, c.requires.fits) in
    let below : c.args.depth - 1 + 1 < 65536 = omega (arith, c.requires.above, c.ranges.depth.fits) in
    search rules

pub skip_payload-returns-clause-shorter : goal.skip_payload-returns-clause-shorter
skip_payload-returns-clause-shorter t c =
    let short = content-shorter (category (code_of c.args.code)) c.args.bytes.now c.in-Ok.content.now c.in-Ok.rest.now c.in-Ok.ensures.ok in
    omega (arith, short)

pub check_content-check_values-requires : goal.check_content-check_values-requires
check_content-check_values-requires t c =
    let short = counted-shorter c.in-List.count c.args.content.now c.in-Ok.count c.in-Ok.body.now c.in-Ok.ensures.ok in
    let fits : length c.in-Ok.body.now + c.args.after < 18446744073709551616 = omega (arith, short, c.requires.fits) in
    search rules

pub check_content-check_values-requires-in-Ok-read_count : goal.check_content-check_values-requires-in-Ok-read_count
check_content-check_values-requires-in-Ok-read_count t c =
    let short = counted-shorter c.in-Map.count c.args.content.now c.in-Ok-read_count.count c.in-Ok-read_count.body.now c.in-Ok-read_count.ensures.ok in
    let fits : length c.in-Ok-read_count.body.now + c.args.after < 18446744073709551616 = omega (arith, short, c.requires.fits) in
    search rules

pub check_content-check_array-requires : goal.check_content-check_array-requires
check_content-check_array-requires t c =
    let short = counted-shorter c.in-Array.count c.args.content.now c.in-Ok-read_count-2.count c.in-Ok-read_count-2.body.now c.in-Ok-read_count-2.ensures.ok in
    let fits : length c.in-Ok-read_count-2.body.now + c.args.after < 18446744073709551616 = omega (arith, short, c.requires.fits) in
    search rules

pub check_content-overflow_add-result-then-count-ne0 : goal.check_content-overflow_add-result-then-count-ne0
check_content-overflow_add-result-then-count-ne0 t c =
    let odd = odd-shorter c.in-Map.count c.args.content.now c.in-Ok-read_count.count c.in-Ok-read_count.body.now c.in-Ok-read_count.ensures.ok (λ e. c.if-count-ne0.true e) in
    omega (arith, odd, c.requires.fits)

pub check_content-overflow_add-result-then-count-ne0-2 : goal.check_content-overflow_add-result-then-count-ne0-2
check_content-overflow_add-result-then-count-ne0-2 t c =
    let odd = odd-shorter c.in-Map.count c.args.content.now c.in-Ok-read_count.count c.in-Ok-read_count.body.now c.in-Ok-read_count.ensures.ok (λ e. c.if-count-ne0.true e) in
    omega (arith, odd, c.requires.fits)

pub check_content-returns-in-Scalar-clause-ok : goal.check_content-returns-in-Scalar-clause-ok
check_content-returns-in-Scalar-clause-ok t c =
    let is : shape_of_code c.args.code ≡ shape.Scalar = search rules in
    on-ok c.check_scalar.result (λ h. (tree.scalar h.0, scalar-found c.args.depth c.args.code c.args.content.now is h.0 h.1)) c.check_scalar.ensures.ok

pub check_content-returns-in-Ok-clause-ok : goal.check_content-returns-in-Ok-clause-ok
check_content-returns-in-Ok-clause-ok t c =
    let is : shape_of_code c.args.code ≡ shape.List c.in-List.count = search rules in
    on-ok c.check_values.result (list-content c.args.depth c.args.code c.args.content.now c.in-List.count c.in-Ok.count c.in-Ok.body.now c.in-Ok.ensures.ok is) c.check_values.ensures.ok

pub check_content-returns-in-Ok-clause-err : goal.check_content-returns-in-Ok-clause-err
check_content-returns-in-Ok-clause-err t c =
    let is : shape_of_code c.args.code ≡ shape.List c.in-List.count = search rules in
    on-err c.check_values.result (no_list-content c.args.depth c.args.code c.args.content.now c.in-List.count c.in-Ok.count c.in-Ok.body.now c.in-Ok.ensures.ok is) c.check_values.ensures.err

pub check_content-returns-else-count-ne0-clause-ok : goal.check_content-returns-else-count-ne0-clause-ok
check_content-returns-else-count-ne0-clause-ok t c =
    let is : shape_of_code c.args.code ≡ shape.Map c.in-Map.count = search rules in
    let even : c.in-Ok-read_count.count % 2 ≡ 0 = search (arith, rules) in
    on-ok c.check_values-in-Ok-read_count.result (map-content c.args.depth c.args.code c.args.content.now c.in-Map.count c.in-Ok-read_count.count c.in-Ok-read_count.body.now c.in-Ok-read_count.ensures.ok is even) c.check_values-in-Ok-read_count.ensures.ok

pub check_content-returns-else-count-ne0-clause-err : goal.check_content-returns-else-count-ne0-clause-err
check_content-returns-else-count-ne0-clause-err t c =
    let is : shape_of_code c.args.code ≡ shape.Map c.in-Map.count = search rules in
    let even : c.in-Ok-read_count.count % 2 ≡ 0 = search (arith, rules) in
    on-err c.check_values-in-Ok-read_count.result (no_map-content c.args.depth c.args.code c.args.content.now c.in-Map.count c.in-Ok-read_count.count c.in-Ok-read_count.body.now c.in-Ok-read_count.ensures.ok is even) c.check_values-in-Ok-read_count.ensures.err

pub check_array-returns-in-None-clause-ok : goal.check_array-returns-in-None-clause-ok
check_array-returns-in-None-clause-ok t c =
    bare-array c.args.depth c.args.count c.args.body.now (search rules) (search rules)

pub check_array-returns-in-Ok-clause-ok : goal.check_array-returns-in-Ok-clause-ok
check_array-returns-in-Ok-clause-ok t c =
    let body : c.args.body.now ≡ c.in-Some.constructor.now ∷ c.in-Some.payloads.now = search rules in
    let none : has_no_payload c.in-Ok.code ≡ true = search rules in
    let one : c.min.result ≡ min c.args.count 1 = omega arith in
    let same = first-skips c.args.depth c.in-Ok.code c.in-Some.payloads.now none c.args.count c.min.result one in
    on-ok c.check_items.result (λ filled. items-found c.args.depth c.args.count c.args.body.now c.in-Some.constructor.now c.in-Some.payloads.now body c.in-Ok.code c.in-Ok.ensures.ok (sym same ∙ filled)) c.check_items.ensures.ok

pub check_array-returns-in-Ok-clause-err : goal.check_array-returns-in-Ok-clause-err
check_array-returns-in-Ok-clause-err t c =
    let body : c.args.body.now ≡ c.in-Some.constructor.now ∷ c.in-Some.payloads.now = search rules in
    let none : has_no_payload c.in-Ok.code ≡ true = search rules in
    let one : c.min.result ≡ min c.args.count 1 = omega arith in
    let same = first-skips c.args.depth c.in-Ok.code c.in-Some.payloads.now none c.args.count c.min.result one in
    on-err c.check_items.result (λ left. no_items c.args.depth c.args.count c.args.body.now c.in-Some.constructor.now c.in-Some.payloads.now body c.in-Ok.code c.in-Ok.ensures.ok (λ filled. left (same ∙ filled))) c.check_items.ensures.err

pub check_array-returns-in-Ok-clause-from_end : goal.check_array-returns-in-Ok-clause-from_end
check_array-returns-in-Ok-clause-from_end t c =
    let body : c.args.body.now ≡ c.in-Some.constructor.now ∷ c.in-Some.payloads.now = search rules in
    let none : has_no_payload c.in-Ok.code ≡ true = search rules in
    let one : c.min.result ≡ min c.args.count 1 = omega arith in
    let same = first-places c.args.depth c.in-Ok.code c.in-Some.payloads.now none (place_in_item c.args.depth c.in-Ok.code) c.args.depth c.args.after c.args.count c.min.result one
    ∙ items-from_end c.args.depth c.args.count c.args.body.now c.in-Some.constructor.now c.in-Some.payloads.now body c.in-Ok.code c.in-Ok.ensures.ok c.args.after in
    subst (λ z. IfErr c.check_items.result (λ p. IsAt p z)) same c.check_items.ensures.from_end

pub check_array-returns-in-Ok-2-clause-ok : goal.check_array-returns-in-Ok-2-clause-ok
check_array-returns-in-Ok-2-clause-ok t c =
    let body : c.args.body.now ≡ c.in-Some.constructor.now ∷ c.in-Some.payloads.now = search rules in
    on-ok c.check_items-in-Ok-2.result (items-found c.args.depth c.args.count c.args.body.now c.in-Some.constructor.now c.in-Some.payloads.now body c.in-Ok.code c.in-Ok.ensures.ok) c.check_items-in-Ok-2.ensures.ok

pub check_array-returns-in-Ok-2-clause-err : goal.check_array-returns-in-Ok-2-clause-err
check_array-returns-in-Ok-2-clause-err t c =
    let body : c.args.body.now ≡ c.in-Some.constructor.now ∷ c.in-Some.payloads.now = search rules in
    on-err c.check_items-in-Ok-2.result (no_items c.args.depth c.args.count c.args.body.now c.in-Some.constructor.now c.in-Some.payloads.now body c.in-Ok.code c.in-Ok.ensures.ok) c.check_items-in-Ok-2.ensures.err

pub check_values-skip_value-requires : goal.check_values-skip_value-requires
check_values-skip_value-requires t c =
    let fits : length c.loop.rest.now + c.args.after < 18446744073709551616 = omega (arith, c.loop.invariant.shorter, c.requires.fits) in
    search rules

pub check_values-loop-preserved : goal.check_values-loop-preserved
check_values-loop-preserved t c =
    let read = c.in_ok-later.ensures.ok in
    record {
      kept = skips-step (parse c.args.depth) c.args.count c.loop.counter c.loop.rest.now c.in_ok-later.later.now read.0 c.loop-test.true read.1 ∙ c.loop.invariant.kept;
      from_end = places-step (place_in c.args.depth) (parse c.args.depth) c.args.depth c.args.after c.args.count c.loop.counter c.loop.rest.now c.in_ok-later.later.now read.0 c.loop-test.true read.1 ∙ c.loop.invariant.from_end;
      shorter = omega (arith, c.in_ok-later.ensures.shorter, c.loop.invariant.shorter);
    }

pub check_values-returns-in_err-later-clause-err : goal.check_values-returns-in_err-later-clause-err
check_values-returns-in_err-later-clause-err t c =
    let left = skips-none (parse c.args.depth) c.args.count c.loop.counter c.loop.rest.now c.args.body.now c.loop-test.true c.loop.invariant.kept c.in_err-later.ensures.err in
    search (rules, left)

pub check_values-returns-in_err-later-clause-from_end : goal.check_values-returns-in_err-later-clause-from_end
check_values-returns-in_err-later-clause-from_end t c =
    let e = places-here (place_in c.args.depth) (parse c.args.depth) c.args.depth c.args.after c.args.count c.loop.counter c.loop.rest.now c.loop-test.true c.in_err-later.ensures.err ∙ c.loop.invariant.from_end in
    let left = ap (λ q. q.0) e in
    let level = ap (λ q. q.1) e in
    search (rules, left, level)

pub check_values-overflow_add-result : goal.check_values-overflow_add-result
check_values-overflow_add-result t c =
    omega (arith, c.loop.invariant.shorter, c.requires.fits)

pub check_values-returns-then-is_empty-clause-ok : goal.check_values-returns-then-is_empty-clause-ok
check_values-returns-then-is_empty-clause-ok t c =
    skips-filled (parse c.args.depth) c.args.count c.loop.counter c.loop.rest.now c.args.body.now (omega (arith, c.loop-test.false)) c.loop.invariant.kept (search rules)

pub check_values-returns-else-is_empty-clause-err : goal.check_values-returns-else-is_empty-clause-err
check_values-returns-else-is_empty-clause-err t c =
    skips-left (parse c.args.depth) c.args.count c.loop.counter c.loop.rest.now c.args.body.now (omega (arith, c.loop-test.false)) c.loop.invariant.kept (search rules)

pub check_values-returns-else-is_empty-clause-from_end : goal.check_values-returns-else-is_empty-clause-from_end
check_values-returns-else-is_empty-clause-from_end t c =
    let e = places-end (place_in c.args.depth) (parse c.args.depth) c.args.depth c.args.after c.args.count c.loop.counter c.loop.rest.now (omega (arith, c.loop-test.false)) ∙ c.loop.invariant.from_end in
    let left = ap (λ q. q.0) e in
    let level = ap (λ q. q.1) e in
    search (rules, left, level)

pub check_items-skip_item-requires : goal.check_items-skip_item-requires
check_items-skip_item-requires t c =
    let fits : length c.loop.rest.now + c.args.after < 18446744073709551616 = omega (arith, c.loop.invariant.shorter, c.requires.fits) in
    search rules

pub check_items-loop-preserved : goal.check_items-loop-preserved
check_items-loop-preserved t c =
    let read = c.in_ok-later.ensures.ok in
    record {
      kept = skips-step (payload_in (parse_content c.args.depth) c.args.code) c.args.count c.loop.counter c.loop.rest.now c.in_ok-later.later.now read.0 c.loop-test.true read.1 ∙ c.loop.invariant.kept;
      from_end = places-step (place_in_item c.args.depth c.args.code) (payload_in (parse_content c.args.depth) c.args.code) c.args.depth c.args.after c.args.count c.loop.counter c.loop.rest.now c.in_ok-later.later.now read.0 c.loop-test.true read.1 ∙ c.loop.invariant.from_end;
      shorter = omega (arith, c.in_ok-later.ensures.shorter, c.loop.invariant.shorter);
    }

pub check_items-returns-in_err-later-clause-err : goal.check_items-returns-in_err-later-clause-err
check_items-returns-in_err-later-clause-err t c =
    let left = skips-none (payload_in (parse_content c.args.depth) c.args.code) c.args.count c.loop.counter c.loop.rest.now c.args.payloads.now c.loop-test.true c.loop.invariant.kept c.in_err-later.ensures.err in
    search (rules, left)

pub check_items-returns-in_err-later-clause-from_end : goal.check_items-returns-in_err-later-clause-from_end
check_items-returns-in_err-later-clause-from_end t c =
    let e = places-here (place_in_item c.args.depth c.args.code) (payload_in (parse_content c.args.depth) c.args.code) c.args.depth c.args.after c.args.count c.loop.counter c.loop.rest.now c.loop-test.true c.in_err-later.ensures.err ∙ c.loop.invariant.from_end in
    let left = ap (λ q. q.0) e in
    let level = ap (λ q. q.1) e in
    search (rules, left, level)

pub check_items-overflow_add-result : goal.check_items-overflow_add-result
check_items-overflow_add-result t c =
    omega (arith, c.loop.invariant.shorter, c.requires.fits)

pub check_items-returns-then-is_empty-clause-ok : goal.check_items-returns-then-is_empty-clause-ok
check_items-returns-then-is_empty-clause-ok t c =
    skips-filled (payload_in (parse_content c.args.depth) c.args.code) c.args.count c.loop.counter c.loop.rest.now c.args.payloads.now (omega (arith, c.loop-test.false)) c.loop.invariant.kept (search rules)

pub check_items-returns-else-is_empty-clause-err : goal.check_items-returns-else-is_empty-clause-err
check_items-returns-else-is_empty-clause-err t c =
    skips-left (payload_in (parse_content c.args.depth) c.args.code) c.args.count c.loop.counter c.loop.rest.now c.args.payloads.now (omega (arith, c.loop-test.false)) c.loop.invariant.kept (search rules)

pub check_items-returns-else-is_empty-clause-from_end : goal.check_items-returns-else-is_empty-clause-from_end
check_items-returns-else-is_empty-clause-from_end t c =
    let e = places-end (place_in_item c.args.depth c.args.code) (payload_in (parse_content c.args.depth) c.args.code) c.args.depth c.args.after c.args.count c.loop.counter c.loop.rest.now (omega (arith, c.loop-test.false)) ∙ c.loop.invariant.from_end in
    let left = ap (λ q. q.0) e in
    let level = ap (λ q. q.1) e in
    search (rules, left, level)
