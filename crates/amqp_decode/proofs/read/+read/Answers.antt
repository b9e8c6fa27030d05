use Rattle.std.proofs.Common.{rules, ◌≡◌, [], ◌∷◌, ◌++◌, Some, None, refl, sym, ap, ◌∙◌, subst, map, ◌+◌, ◌-◌, ◌/◌, ◌%◌, arith}
use Rattle.amqp_value.specs.TreeOf.{tree_of}
use Rattle.amqp_value.specs.MapBuilder.{collected_pairs}
use Rattle.amqp_value.specs.declared.value.Value.{the_lemmas}
use Rattle.amqp_data.specs.declared.format_code.EncodingCodes.TheVariants as code
use Rattle.amqp_decode.specs.Codes.{primitive_of}
use Rattle.amqp_decode.specs.Scalars.{and_then}
use Rattle.amqp_decode.specs.Parsed.{all, value_in_bytes, gather, parse, parse_content, payload_in, parse_list, parse_map, parse_array, insert}
use Rattle.amqp_decode.proofs.Steps.{item-zero, byte-ok, byte-err, item-ok, item-err, parse-zero, parse-at, parse-empty, values-and_then, insert-and_then, insert-no_key, insert-no_value, list-none, map-none, items-none, array-found, array-none}
use Rattle.amqp_decode.specs.WithoutBytes.{IsExceeded, own_items, in_array, content_without_bytes, elements_without_bytes, value_around, in_payload}
use Rattle.amqp_decode.proofs.Counts.{count-at, content-count, found-count, byte-count, sum-step, sum-more, pair-step, key-more, value-more, remains-step, remains-exceeded, leaves-none, leaves-at, leaves-both, exceeded-items, exceeded-more, array-count, spends-at}
use Rattle.amqp_decode.specs.Faults.{fault_around, fault_in, fault_in_item}
use Rattle.amqp_decode.proofs.FaultLemmas.{fails-as, fails-at, fails-there, fault-zero, fault-at, fault-empty, item-fault-zero, item-fault, item-ends, byte-fault, values-step, values-here, values-end, pair-fault, key-fault, value-fault, even-map, array-fault}
use Rattle.amqp_decode.proofs.read.+read.Goals as goal

pub read_item-returns-then-depth-eq0-clause-err : goal.read_item-returns-then-depth-eq0-clause-err
read_item-returns-then-depth-eq0-clause-err t c = λ _ _. item-zero c.args.depth c.args.code c.args.bytes.now.now c.if-depth-eq0.true

pub read_item-returns-clause-ok : goal.read_item-returns-clause-ok
read_item-returns-clause-ok t c =
    item-ok c.args.depth c.args.code c.args.bytes.now.now c.in_ok-content.content.now c.in_ok-content.rest.now c.read_content.result
    (omega (arith, c.if-depth-eq0.false)) c.in_ok-content.ensures.ok c.read_content.ensures.ok

pub read_item-returns-clause-err : goal.read_item-returns-clause-err
read_item-returns-clause-err t c =
    item-err c.args.depth c.args.code c.args.bytes.now.now c.in_ok-content.content.now c.in_ok-content.rest.now c.read_content.result
    (omega (arith, c.if-depth-eq0.false)) c.in_ok-content.ensures.ok c.read_content.ensures.err

pub read_item-returns-clause-limit : goal.read_item-returns-clause-limit
read_item-returns-clause-limit t c =
    spends-at _ _ _ _ _ (content-count c.args.depth c.args.code c.args.bytes.now.now c.in_ok-content.content.now c.in_ok-content.rest.now
    (omega (arith, c.if-depth-eq0.false)) c.in_ok-content.ensures.ok) c.read_content.ensures.limit

pub read_value-returns-then-depth-eq0-clause-err : goal.read_value-returns-then-depth-eq0-clause-err
read_value-returns-then-depth-eq0-clause-err t c = λ _ _. parse-zero c.args.depth c.args.bytes.now.now c.if-depth-eq0.true

pub read_value-returns-in-None-clause-err : goal.read_value-returns-in-None-clause-err
read_value-returns-in-None-clause-err t c = λ _ _. parse-empty c.args.depth c.args.bytes.now.now (omega (arith, c.if-depth-eq0.false)) (search rules)

pub read_value-returns-in-Some-read_fixed-clause-ok : goal.read_value-returns-in-Some-read_fixed-clause-ok
read_value-returns-in-Some-read_fixed-clause-ok t c =
    let bytes : c.args.bytes.now.now ≡ c.in-Some.code.now ∷ c.in-Some.rest.now = search rules in
    rw (parse-at c.args.depth c.args.bytes.now.now (omega (arith, c.if-depth-eq0.false)), bytes)
    (c.in-Some-read_fixed.ensures.found (parse (c.args.depth - 1)) (parse_content (c.args.depth - 1)))

pub read_value-returns-in-Some-read_fixed-clause-limit : goal.read_value-returns-in-Some-read_fixed-clause-limit
read_value-returns-in-Some-read_fixed-clause-limit t c =
    let bytes : c.args.bytes.now.now ≡ c.in-Some.code.now ∷ c.in-Some.rest.now = search rules in
    leaves-none _ _ (ap (elements_without_bytes c.args.depth) bytes
    ∙ found-count c.args.depth _ _ (omega (arith, c.if-depth-eq0.false)) c.in-Some-read_fixed.ensures.found)

pub read_value-returns-in_default-clause-ok : goal.read_value-returns-in_default-clause-ok
read_value-returns-in_default-clause-ok t c =
    let bytes : c.args.bytes.now.now ≡ c.in-Some.code.now ∷ c.in-Some.rest.now = search rules in
    rw (parse-at c.args.depth c.args.bytes.now.now (omega (arith, c.if-depth-eq0.false)), bytes) c.read_after_code.ensures.ok

pub read_value-returns-in_default-clause-err : goal.read_value-returns-in_default-clause-err
read_value-returns-in_default-clause-err t c =
    let bytes : c.args.bytes.now.now ≡ c.in-Some.code.now ∷ c.in-Some.rest.now = search rules in
    rw (parse-at c.args.depth c.args.bytes.now.now (omega (arith, c.if-depth-eq0.false)), bytes) c.read_after_code.ensures.err

pub read_value-returns-in_default-clause-limit : goal.read_value-returns-in_default-clause-limit
read_value-returns-in_default-clause-limit t c =
    let bytes : c.args.bytes.now.now ≡ c.in-Some.code.now ∷ c.in-Some.rest.now = search rules in
    spends-at _ _ _ _ _ (sym (count-at c.args.depth c.args.bytes.now.now (omega (arith, c.if-depth-eq0.false)) ∙ ap (value_around (c.args.depth - 1)) bytes))
    c.read_after_code.ensures.limit

pub read_after_code-returns-in-160-clause-ok : goal.read_after_code-returns-in-160-clause-ok
read_after_code-returns-in-160-clause-ok t c = byte-ok (parse c.args.depth) (parse_content c.args.depth) c.args.code code.Vbin8 c.args.bytes.now.now c.read_named.result c.read_named.new.bytes.now c.in-160.is refl c.read_named.ensures.ok

pub read_after_code-returns-in-160-clause-err : goal.read_after_code-returns-in-160-clause-err
read_after_code-returns-in-160-clause-err t c = byte-err (parse c.args.depth) (parse_content c.args.depth) c.args.code code.Vbin8 c.args.bytes.now.now c.read_named.result c.in-160.is refl c.read_named.ensures.err

pub read_after_code-returns-in-160-clause-limit : goal.read_after_code-returns-in-160-clause-limit
read_after_code-returns-in-160-clause-limit t c = spends-at _ _ _ _ _ (byte-count c.args.depth c.args.code code.Vbin8 c.args.bytes.now.now c.in-160.is refl) c.read_named.ensures.limit

pub read_after_code-returns-in-161-clause-ok : goal.read_after_code-returns-in-161-clause-ok
read_after_code-returns-in-161-clause-ok t c = byte-ok (parse c.args.depth) (parse_content c.args.depth) c.args.code code.Str8 c.args.bytes.now.now c.read_named-in-161.result c.read_named-in-161.new.bytes.now c.in-161.is refl c.read_named-in-161.ensures.ok

pub read_after_code-returns-in-161-clause-err : goal.read_after_code-returns-in-161-clause-err
read_after_code-returns-in-161-clause-err t c = byte-err (parse c.args.depth) (parse_content c.args.depth) c.args.code code.Str8 c.args.bytes.now.now c.read_named-in-161.result c.in-161.is refl c.read_named-in-161.ensures.err

pub read_after_code-returns-in-161-clause-limit : goal.read_after_code-returns-in-161-clause-limit
read_after_code-returns-in-161-clause-limit t c = spends-at _ _ _ _ _ (byte-count c.args.depth c.args.code code.Str8 c.args.bytes.now.now c.in-161.is refl) c.read_named-in-161.ensures.limit

pub read_after_code-returns-in-163-clause-ok : goal.read_after_code-returns-in-163-clause-ok
read_after_code-returns-in-163-clause-ok t c = byte-ok (parse c.args.depth) (parse_content c.args.depth) c.args.code code.Sym8 c.args.bytes.now.now c.read_named-in-163.result c.read_named-in-163.new.bytes.now c.in-163.is refl c.read_named-in-163.ensures.ok

pub read_after_code-returns-in-163-clause-err : goal.read_after_code-returns-in-163-clause-err
read_after_code-returns-in-163-clause-err t c = byte-err (parse c.args.depth) (parse_content c.args.depth) c.args.code code.Sym8 c.args.bytes.now.now c.read_named-in-163.result c.in-163.is refl c.read_named-in-163.ensures.err

pub read_after_code-returns-in-163-clause-limit : goal.read_after_code-returns-in-163-clause-limit
read_after_code-returns-in-163-clause-limit t c = spends-at _ _ _ _ _ (byte-count c.args.depth c.args.code code.Sym8 c.args.bytes.now.now c.in-163.is refl) c.read_named-in-163.ensures.limit

pub read_after_code-returns-in-192-clause-ok : goal.read_after_code-returns-in-192-clause-ok
read_after_code-returns-in-192-clause-ok t c = byte-ok (parse c.args.depth) (parse_content c.args.depth) c.args.code code.List8 c.args.bytes.now.now c.read_named-in-192.result c.read_named-in-192.new.bytes.now c.in-192.is refl c.read_named-in-192.ensures.ok

pub read_after_code-returns-in-192-clause-err : goal.read_after_code-returns-in-192-clause-err
read_after_code-returns-in-192-clause-err t c = byte-err (parse c.args.depth) (parse_content c.args.depth) c.args.code code.List8 c.args.bytes.now.now c.read_named-in-192.result c.in-192.is refl c.read_named-in-192.ensures.err

pub read_after_code-returns-in-192-clause-limit : goal.read_after_code-returns-in-192-clause-limit
read_after_code-returns-in-192-clause-limit t c = spends-at _ _ _ _ _ (byte-count c.args.depth c.args.code code.List8 c.args.bytes.now.now c.in-192.is refl) c.read_named-in-192.ensures.limit

pub read_after_code-returns-in-177-clause-ok : goal.read_after_code-returns-in-177-clause-ok
read_after_code-returns-in-177-clause-ok t c = byte-ok (parse c.args.depth) (parse_content c.args.depth) c.args.code code.Str32 c.args.bytes.now.now c.read_named-in-177.result c.read_named-in-177.new.bytes.now c.in-177.is refl c.read_named-in-177.ensures.ok

pub read_after_code-returns-in-177-clause-err : goal.read_after_code-returns-in-177-clause-err
read_after_code-returns-in-177-clause-err t c = byte-err (parse c.args.depth) (parse_content c.args.depth) c.args.code code.Str32 c.args.bytes.now.now c.read_named-in-177.result c.in-177.is refl c.read_named-in-177.ensures.err

pub read_after_code-returns-in-177-clause-limit : goal.read_after_code-returns-in-177-clause-limit
read_after_code-returns-in-177-clause-limit t c = spends-at _ _ _ _ _ (byte-count c.args.depth c.args.code code.Str32 c.args.bytes.now.now c.in-177.is refl) c.read_named-in-177.ensures.limit

pub read_after_code-returns-in-208-clause-ok : goal.read_after_code-returns-in-208-clause-ok
read_after_code-returns-in-208-clause-ok t c = byte-ok (parse c.args.depth) (parse_content c.args.depth) c.args.code code.List32 c.args.bytes.now.now c.read_named-in-208.result c.read_named-in-208.new.bytes.now c.in-208.is refl c.read_named-in-208.ensures.ok

pub read_after_code-returns-in-208-clause-err : goal.read_after_code-returns-in-208-clause-err
read_after_code-returns-in-208-clause-err t c = byte-err (parse c.args.depth) (parse_content c.args.depth) c.args.code code.List32 c.args.bytes.now.now c.read_named-in-208.result c.in-208.is refl c.read_named-in-208.ensures.err

pub read_after_code-returns-in-208-clause-limit : goal.read_after_code-returns-in-208-clause-limit
read_after_code-returns-in-208-clause-limit t c = spends-at _ _ _ _ _ (byte-count c.args.depth c.args.code code.List32 c.args.bytes.now.now c.in-208.is refl) c.read_named-in-208.ensures.limit

pub push_value-returns-then-depth-eq0-clause-err : goal.push_value-returns-then-depth-eq0-clause-err
push_value-returns-then-depth-eq0-clause-err t c = λ _ _. parse-zero c.args.depth c.args.bytes.now.now c.if-depth-eq0.true

pub push_value-returns-in-None-clause-err : goal.push_value-returns-in-None-clause-err
push_value-returns-in-None-clause-err t c = λ _ _. parse-empty c.args.depth c.args.bytes.now.now (omega (arith, c.if-depth-eq0.false)) (search rules)

pub push_value-returns-in-Some-push_fixed-clause-ok : goal.push_value-returns-in-Some-push_fixed-clause-ok
push_value-returns-in-Some-push_fixed-clause-ok t c =
    let bytes : c.args.bytes.now.now ≡ c.in-Some.code.now ∷ c.in-Some.rest.now = search rules in
    let pushed = c.in-Some-push_fixed.ensures.found in
    let found : parse c.args.depth c.args.bytes.now.now ≡ Some (tree_of pushed.0, c.in-Some-push_fixed.rest.now) =
    rw (parse-at c.args.depth c.args.bytes.now.now (omega (arith, c.if-depth-eq0.false)), bytes)
    (pushed.2 (parse (c.args.depth - 1)) (parse_content (c.args.depth - 1))) in
    (pushed.0, pushed.1, found)

pub push_value-returns-in-Some-push_fixed-clause-limit : goal.push_value-returns-in-Some-push_fixed-clause-limit
push_value-returns-in-Some-push_fixed-clause-limit t c =
    let bytes : c.args.bytes.now.now ≡ c.in-Some.code.now ∷ c.in-Some.rest.now = search rules in
    leaves-none _ _ (ap (elements_without_bytes c.args.depth) bytes
    ∙ found-count c.args.depth _ _ (omega (arith, c.if-depth-eq0.false)) c.in-Some-push_fixed.ensures.found.2)

pub push_value-returns-in_ok-value-in-Some-clause-ok : goal.push_value-returns-in_ok-value-in-Some-clause-ok
push_value-returns-in_ok-value-in-Some-clause-ok t c =
    let bytes : c.args.bytes.now.now ≡ c.in-Some.code.now ∷ c.in-Some.rest.now = search rules in
    let pushed : c.push_reserved.new.self.items ≡ c.push_fixed.new.list.items ++ c.in_ok-value-in-Some.value ∷ [] = search rules in
    let kept : c.push_fixed.new.list.items ≡ c.args.list.now.items = search rules in
    let found : parse c.args.depth c.args.bytes.now.now ≡ Some (tree_of c.in_ok-value-in-Some.value, c.read_after_code.new.bytes.now) =
    rw (parse-at c.args.depth c.args.bytes.now.now (omega (arith, c.if-depth-eq0.false)), bytes) c.in_ok-value-in-Some.ensures.ok in
    (c.in_ok-value-in-Some.value, pushed ∙ ap (λ s. s ++ c.in_ok-value-in-Some.value ∷ []) kept, found)

pub push_value-returns-in_ok-value-in-Some-clause-limit : goal.push_value-returns-in_ok-value-in-Some-clause-limit
push_value-returns-in_ok-value-in-Some-clause-limit t c =
    let bytes : c.args.bytes.now.now ≡ c.in-Some.code.now ∷ c.in-Some.rest.now = search rules in
    leaves-at _ _ _ _ (sym (count-at c.args.depth c.args.bytes.now.now (omega (arith, c.if-depth-eq0.false)) ∙ ap (value_around (c.args.depth - 1)) bytes))
    c.in_ok-value-in-Some.ensures.limit

pub push_value-returns-in_err-value-in-Some-clause-err : goal.push_value-returns-in_err-value-in-Some-clause-err
push_value-returns-in_err-value-in-Some-clause-err t c =
    let bytes : c.args.bytes.now.now ≡ c.in-Some.code.now ∷ c.in-Some.rest.now = search rules in
    let none : value_in_bytes (parse (c.args.depth - 1)) (parse_content (c.args.depth - 1)) (c.in-Some.code.now ∷ c.in-Some.rest.now) ≡ None → parse c.args.depth c.args.bytes.now.now ≡ None =
    λ h. rw (parse-at c.args.depth c.args.bytes.now.now (omega (arith, c.if-depth-eq0.false)), bytes) h in
    search (rules, none)

pub push_value-returns-in_err-value-in-Some-clause-limit : goal.push_value-returns-in_err-value-in-Some-clause-limit
push_value-returns-in_err-value-in-Some-clause-limit t c =
    let bytes : c.args.bytes.now.now ≡ c.in-Some.code.now ∷ c.in-Some.rest.now = search rules in
    let same : value_around (c.args.depth - 1) (c.in-Some.code.now ∷ c.in-Some.rest.now) ≡ elements_without_bytes c.args.depth c.args.bytes.now.now =
    sym (count-at c.args.depth c.args.bytes.now.now (omega (arith, c.if-depth-eq0.false)) ∙ ap (value_around (c.args.depth - 1)) bytes) in
    let over : IsExceeded c.args.limit.now (value_around (c.args.depth - 1) (c.in-Some.code.now ∷ c.in-Some.rest.now)) → IsExceeded c.args.limit.now (elements_without_bytes c.args.depth c.args.bytes.now.now) =
    subst (IsExceeded c.args.limit.now) same in
    search (rules, over)

pub decode_list-loop-read-preserved : goal.decode_list-loop-read-preserved
decode_list-loop-read-preserved t c =
    let p = c.in_ok-push_value.ensures.ok in
    let step = values-and_then (parse c.args.depth) c.args.count c.loop-read.read c.loop-read.rest.now c.push_value.new.bytes.now p.0 c.loop-read.list.items c.loop-read-test.true p.2 in
    let pushed : c.push_value.new.list.items ≡ c.loop-read.list.items ++ p.0 ∷ [] = p.1 ∙ ap (λ s. s ++ p.0 ∷ []) c.reserve_element.ensures.items in
    record {
      values = rw pushed (step ∙ c.loop-read.invariant.values);
      limit = remains-step _ _ _ _ _ _ _ (sum-step (elements_without_bytes c.args.depth) (parse c.args.depth) c.args.count c.loop-read.read c.loop-read.rest.now c.push_value.new.bytes.now (tree_of p.0) c.loop-read-test.true p.2)
          c.loop-read.invariant.limit c.in_ok-push_value.ensures.limit;
      fault = values-step (fault_in c.args.depth) (parse c.args.depth) c.args.count c.loop-read.read c.loop-read.rest.now c.push_value.new.bytes.now (tree_of p.0) c.loop-read-test.true p.2 ∙ c.loop-read.invariant.fault;
    }

pub decode_list-returns-in_err-push_value-clause-err : goal.decode_list-returns-in_err-push_value-clause-err
decode_list-returns-in_err-push_value-clause-err t c =
    let none : parse c.args.depth c.loop-read.rest.now ≡ None → parse_list (parse c.args.depth) (c.args.count, c.args.body.now) ≡ None =
    λ h. list-none (parse c.args.depth) c.args.count c.loop-read.read c.loop-read.rest.now c.args.body.now (map tree_of c.loop-read.list.items) c.loop-read-test.true c.loop-read.invariant.values h in
    search (rules, none)

pub decode_list-returns-in_err-push_value-clause-limit : goal.decode_list-returns-in_err-push_value-clause-limit
decode_list-returns-in_err-push_value-clause-limit t c =
    let more = sum-more (elements_without_bytes c.args.depth) (parse c.args.depth) c.args.count c.loop-read.read c.loop-read.rest.now c.loop-read-test.true in
    let over = remains-exceeded _ _ _ _ _ more.0 more.1 c.loop-read.invariant.limit in
    search (rules, over)

pub read_entries-loop-preserved : goal.read_entries-loop-preserved
read_entries-loop-preserved t c =
    let step = insert-and_then (parse c.args.depth) (c.args.count / 2) c.loop.counter c.loop.rest.now c.read_value.new.bytes.now c.read_value-in-loop.new.bytes.now (tree_of c.in_ok-key.key) (tree_of c.in_ok-value.value) (collected_pairs c.loop.pairs) c.loop-test.true c.in_ok-key.ensures.ok c.in_ok-value.ensures.ok in
    let sum = pair-step (elements_without_bytes c.args.depth) (parse c.args.depth) (c.args.count / 2) c.loop.counter c.loop.rest.now c.read_value.new.bytes.now c.read_value-in-loop.new.bytes.now (tree_of c.in_ok-key.key) (tree_of c.in_ok-value.value) c.loop-test.true c.in_ok-key.ensures.ok c.in_ok-value.ensures.ok in
    record {
      values = ap (insert (parse c.args.depth) (c.args.count / 2 - (c.loop.counter + 1)) c.read_value-in-loop.new.bytes.now) c.in_ok-insert.ensures.ok ∙ (step ∙ c.loop.invariant.values);
      limit = remains-step _ _ _ _ _ _ _ refl (remains-step _ _ _ _ _ _ _ sum c.loop.invariant.limit c.in_ok-key.ensures.limit) c.in_ok-value.ensures.limit;
      fault = pair-fault (fault_in c.args.depth) (parse c.args.depth) (c.args.count / 2) c.loop.counter c.loop.rest.now c.read_value.new.bytes.now c.read_value-in-loop.new.bytes.now (tree_of c.in_ok-key.key) (tree_of c.in_ok-value.value) c.loop-test.true c.in_ok-key.ensures.ok c.in_ok-value.ensures.ok ∙ c.loop.invariant.fault;
    }

pub read_entries-returns-in_err-key-clause-err : goal.read_entries-returns-in_err-key-clause-err
read_entries-returns-in_err-key-clause-err t c =
    let none : parse c.args.depth c.loop.rest.now ≡ None → parse_map (parse c.args.depth) (c.args.count, c.args.body.now) ≡ None =
    λ h. map-none (parse c.args.depth) c.args.count c.args.body.now
    (sym c.loop.invariant.values ∙ insert-no_key (parse c.args.depth) (c.args.count / 2) c.loop.counter c.loop.rest.now (collected_pairs c.loop.pairs) c.loop-test.true h) in
    search (rules, none)

pub read_entries-returns-in_err-key-clause-limit : goal.read_entries-returns-in_err-key-clause-limit
read_entries-returns-in_err-key-clause-limit t c =
    let more = key-more (elements_without_bytes c.args.depth) (parse c.args.depth) (c.args.count / 2) c.loop.counter c.loop.rest.now c.loop-test.true in
    let over = remains-exceeded _ _ _ _ _ more.0 more.1 c.loop.invariant.limit in
    search (rules, over)

pub read_entries-returns-in_err-value-clause-err : goal.read_entries-returns-in_err-value-clause-err
read_entries-returns-in_err-value-clause-err t c =
    let none : parse c.args.depth c.read_value.new.bytes.now ≡ None → parse_map (parse c.args.depth) (c.args.count, c.args.body.now) ≡ None =
    λ h. map-none (parse c.args.depth) c.args.count c.args.body.now
    (sym c.loop.invariant.values ∙ insert-no_value (parse c.args.depth) (c.args.count / 2) c.loop.counter c.loop.rest.now c.read_value.new.bytes.now (tree_of c.in_ok-key.key) (collected_pairs c.loop.pairs) c.loop-test.true c.in_ok-key.ensures.ok h) in
    search (rules, none)

pub read_entries-returns-in_err-value-clause-limit : goal.read_entries-returns-in_err-value-clause-limit
read_entries-returns-in_err-value-clause-limit t c =
    let more = value-more (elements_without_bytes c.args.depth) (parse c.args.depth) (c.args.count / 2) c.loop.counter c.loop.rest.now c.read_value.new.bytes.now (tree_of c.in_ok-key.key) c.loop-test.true c.in_ok-key.ensures.ok in
    let left = remains-step _ _ _ _ _ _ _ more.1 c.loop.invariant.limit c.in_ok-key.ensures.limit in
    let over = remains-exceeded _ _ _ _ _ more.0 refl left in
    search (rules, over)

pub read_items-loop-preserved : goal.read_items-loop-preserved
read_items-loop-preserved t c =
    let step = values-and_then (payload_in (parse_content c.args.depth) c.args.code) c.in_ok-left.left c.loop.counter c.loop.rest.now c.read_item.new.bytes.now c.in_ok-item.item c.loop.items.items c.loop-test.true c.in_ok-item.ensures.ok in
    let pushed : c.push.new.self.items ≡ c.loop.items.items ++ c.in_ok-item.item ∷ [] = search rules in
    let sum = sum-step (in_payload (content_without_bytes c.args.depth) c.args.code) (payload_in (parse_content c.args.depth) c.args.code) c.in_ok-left.left c.loop.counter c.loop.rest.now c.read_item.new.bytes.now (tree_of c.in_ok-item.item) c.loop-test.true c.in_ok-item.ensures.ok in
    record {
      values = rw pushed (step ∙ c.loop.invariant.values);
      limit = remains-step _ _ _ _ _ _ _ sum c.loop.invariant.limit c.in_ok-item.ensures.limit;
      fault = values-step (fault_in_item c.args.depth c.args.code) (payload_in (parse_content c.args.depth) c.args.code) c.in_ok-left.left c.loop.counter c.loop.rest.now c.read_item.new.bytes.now (tree_of c.in_ok-item.item) c.loop-test.true c.in_ok-item.ensures.ok ∙ c.loop.invariant.fault;
    }

pub read_items-returns-in_err-item-clause-err : goal.read_items-returns-in_err-item-clause-err
read_items-returns-in_err-item-clause-err t c =
    let none : payload_in (parse_content c.args.depth) c.args.code c.loop.rest.now ≡ None → and_then (gather (payload_in (parse_content c.args.depth) c.args.code) c.args.count c.args.payloads.now []) all ≡ None =
    λ h. items-none (payload_in (parse_content c.args.depth) c.args.code) c.args.count c.in_ok-left.left c.loop.counter c.loop.rest.now c.args.payloads.now (map tree_of c.loop.items.items) c.loop-test.true c.loop.invariant.values h in
    search (rules, none)

pub read_items-returns-in_err-item-clause-limit : goal.read_items-returns-in_err-item-clause-limit
read_items-returns-in_err-item-clause-limit t c =
    let more = sum-more (in_payload (content_without_bytes c.args.depth) c.args.code) (payload_in (parse_content c.args.depth) c.args.code) c.in_ok-left.left c.loop.counter c.loop.rest.now c.loop-test.true in
    let over = remains-exceeded _ _ _ _ _ more.0 more.1 c.loop.invariant.limit in
    search (rules, over)

pub decode_array-returns-in_ok-items-in-Some-clause-ok : goal.decode_array-returns-in_ok-items-in-Some-clause-ok
decode_array-returns-in_ok-items-in-Some-clause-ok t c =
    let body : c.args.body.now ≡ c.in-Some.constructor.now ∷ c.in-Some.payloads.now = search rules in
    let named : primitive_of c.in-Some.constructor.now ≡ Some c.in_ok-code-in-Some.code = search rules in
    let found = array-found (parse_content c.args.depth) c.in-Some.constructor.now c.in_ok-code-in-Some.code c.args.count c.args.body.now c.in-Some.payloads.now (map tree_of c.in_ok-items-in-Some.items.items) named body c.in_ok-items-in-Some.ensures.ok in
    search (rules, the_lemmas, found)

pub decode_array-returns-in_err-items-in-Some-clause-err : goal.decode_array-returns-in_err-items-in-Some-clause-err
decode_array-returns-in_err-items-in-Some-clause-err t c =
    let body : c.args.body.now ≡ c.in-Some.constructor.now ∷ c.in-Some.payloads.now = search rules in
    let named : primitive_of c.in-Some.constructor.now ≡ Some c.in_ok-code-in-Some.code = search rules in
    let none : and_then (gather (payload_in (parse_content c.args.depth) c.in_ok-code-in-Some.code) c.args.count c.in-Some.payloads.now []) all ≡ None → parse_array (parse_content c.args.depth) (c.args.count, c.args.body.now) ≡ None =
    array-none (parse_content c.args.depth) c.in-Some.constructor.now c.in_ok-code-in-Some.code c.args.count c.args.body.now c.in-Some.payloads.now named body in
    search (rules, none)

pub decode_array-returns-in_ok-items-in-Some-clause-limit : goal.decode_array-returns-in_ok-items-in-Some-clause-limit
decode_array-returns-in_ok-items-in-Some-clause-limit t c =
    let body : c.args.body.now ≡ c.in-Some.constructor.now ∷ c.in-Some.payloads.now = search rules in
    let named : primitive_of c.in-Some.constructor.now ≡ Some c.in_ok-code-in-Some.code = search rules in
    let all_of = array-count (content_without_bytes c.args.depth) (parse_content c.args.depth) c.in-Some.constructor.now c.in_ok-code-in-Some.code c.args.count c.args.body.now c.in-Some.payloads.now named body in
    leaves-at _ _ _ _ (sym all_of) (leaves-both _ _ _ _ _ c.in_ok-spend_items-in-Some.ensures.limit c.in_ok-items-in-Some.ensures.limit)

pub decode_array-returns-in_err-items-in-Some-clause-limit : goal.decode_array-returns-in_err-items-in-Some-clause-limit
decode_array-returns-in_err-items-in-Some-clause-limit t c =
    let body : c.args.body.now ≡ c.in-Some.constructor.now ∷ c.in-Some.payloads.now = search rules in
    let named : primitive_of c.in-Some.constructor.now ≡ Some c.in_ok-code-in-Some.code = search rules in
    let all_of = array-count (content_without_bytes c.args.depth) (parse_content c.args.depth) c.in-Some.constructor.now c.in_ok-code-in-Some.code c.args.count c.args.body.now c.in-Some.payloads.now named body in
    let over = exceeded-items _ _ _ _ _ all_of c.in_ok-spend_items-in-Some.ensures.limit in
    search (rules, over)

pub decode_array-returns-in_err-spend_items-in-Some-clause-limit : goal.decode_array-returns-in_err-spend_items-in-Some-clause-limit
decode_array-returns-in_err-spend_items-in-Some-clause-limit t c =
    let body : c.args.body.now ≡ c.in-Some.constructor.now ∷ c.in-Some.payloads.now = search rules in
    let named : primitive_of c.in-Some.constructor.now ≡ Some c.in_ok-code-in-Some.code = search rules in
    let all_of = array-count (content_without_bytes c.args.depth) (parse_content c.args.depth) c.in-Some.constructor.now c.in_ok-code-in-Some.code c.args.count c.args.body.now c.in-Some.payloads.now named body in
    let over : IsExceeded c.args.limit.now (own_items c.in_ok-code-in-Some.code c.args.count) → IsExceeded c.args.limit.now (in_array (content_without_bytes c.args.depth) (parse_content c.args.depth) (c.args.count, c.args.body.now)) =
    λ h. subst (IsExceeded c.args.limit.now) (sym all_of) (exceeded-more _ _ _ h) in
    search (rules, over)

pub read_item-returns-then-depth-eq0-clause-fault : goal.read_item-returns-then-depth-eq0-clause-fault
read_item-returns-then-depth-eq0-clause-fault t c = λ _ _. item-fault-zero c.args.depth c.args.code c.args.bytes.now.now c.if-depth-eq0.true

pub read_item-returns-clause-fault : goal.read_item-returns-clause-fault
read_item-returns-clause-fault t c =
    fails-at c.read_content.result _ _ (item-fault c.args.depth c.args.code c.args.bytes.now.now c.in_ok-content.content.now c.in_ok-content.rest.now
    (omega (arith, c.if-depth-eq0.false)) c.in_ok-content.ensures.ok) c.read_content.ensures.fault

pub read_item-returns-in_err-content-clause-fault : goal.read_item-returns-in_err-content-clause-fault
read_item-returns-in_err-content-clause-fault t c =
    let ends = c.in_err-content.ensures.eof ∙ item-ends c.args.depth c.args.code c.args.bytes.now.now (omega (arith, c.if-depth-eq0.false)) c.in_err-content.ensures.err in
    search (rules, ends)

pub read_value-returns-then-depth-eq0-clause-fault : goal.read_value-returns-then-depth-eq0-clause-fault
read_value-returns-then-depth-eq0-clause-fault t c = λ _ _. fault-zero c.args.depth c.args.bytes.now.now c.if-depth-eq0.true

pub read_value-returns-in-None-clause-fault : goal.read_value-returns-in-None-clause-fault
read_value-returns-in-None-clause-fault t c = λ _ _. fault-empty c.args.depth c.args.bytes.now.now (omega (arith, c.if-depth-eq0.false)) (search rules)

pub read_value-returns-in_default-clause-fault : goal.read_value-returns-in_default-clause-fault
read_value-returns-in_default-clause-fault t c =
    let bytes : c.args.bytes.now.now ≡ c.in-Some.code.now ∷ c.in-Some.rest.now = search rules in
    fails-at c.read_after_code.result _ _ (ap (fault_around (c.args.depth - 1)) (sym bytes) ∙ fault-at c.args.depth c.args.bytes.now.now (omega (arith, c.if-depth-eq0.false)))
    c.read_after_code.ensures.fault

pub push_value-returns-then-depth-eq0-clause-fault : goal.push_value-returns-then-depth-eq0-clause-fault
push_value-returns-then-depth-eq0-clause-fault t c = λ _ _. fault-zero c.args.depth c.args.bytes.now.now c.if-depth-eq0.true

pub push_value-returns-in-None-clause-fault : goal.push_value-returns-in-None-clause-fault
push_value-returns-in-None-clause-fault t c = λ _ _. fault-empty c.args.depth c.args.bytes.now.now (omega (arith, c.if-depth-eq0.false)) (search rules)

pub push_value-returns-in_err-value-in-Some-clause-fault : goal.push_value-returns-in_err-value-in-Some-clause-fault
push_value-returns-in_err-value-in-Some-clause-fault t c =
    let bytes : c.args.bytes.now.now ≡ c.in-Some.code.now ∷ c.in-Some.rest.now = search rules in
    let fails = fails-as _ _ _ (ap (fault_around (c.args.depth - 1)) (sym bytes) ∙ fault-at c.args.depth c.args.bytes.now.now (omega (arith, c.if-depth-eq0.false))) c.in_err-value-in-Some.ensures.fault in
    search (rules, fails)

pub decode_list-returns-in_err-push_value-clause-fault : goal.decode_list-returns-in_err-push_value-clause-fault
decode_list-returns-in_err-push_value-clause-fault t c =
    let fails = fails-there _ _ _ (parse c.args.depth c.loop-read.rest.now ≡ None) c.in_err-push_value.ensures.err c.in_err-push_value.ensures.fault
    (λ h. values-here (fault_in c.args.depth) (parse c.args.depth) c.args.count c.loop-read.read c.loop-read.rest.now c.loop-read-test.true h ∙ c.loop-read.invariant.fault) in
    search (rules, fails)

pub read_items-returns-in_err-item-clause-fault : goal.read_items-returns-in_err-item-clause-fault
read_items-returns-in_err-item-clause-fault t c =
    let fails = fails-there _ _ _ (payload_in (parse_content c.args.depth) c.args.code c.loop.rest.now ≡ None) c.in_err-item.ensures.err c.in_err-item.ensures.fault
    (λ h. values-here (fault_in_item c.args.depth c.args.code) (payload_in (parse_content c.args.depth) c.args.code) c.in_ok-left.left c.loop.counter c.loop.rest.now c.loop-test.true h ∙ c.loop.invariant.fault) in
    search (rules, fails)

pub decode_array-returns-in_err-items-in-Some-clause-fault : goal.decode_array-returns-in_err-items-in-Some-clause-fault
decode_array-returns-in_err-items-in-Some-clause-fault t c =
    let body : c.args.body.now ≡ c.in-Some.constructor.now ∷ c.in-Some.payloads.now = search rules in
    let named : primitive_of c.in-Some.constructor.now ≡ Some c.in_ok-code-in-Some.code = search rules in
    let fails = fails-as _ _ _ (array-fault (fault_in_item c.args.depth) (parse_content c.args.depth) c.in-Some.constructor.now c.in_ok-code-in-Some.code c.args.count c.args.body.now c.in-Some.payloads.now named body) c.in_err-items-in-Some.ensures.fault in
    search (rules, fails)

pub read_after_code-returns-in-160-clause-fault : goal.read_after_code-returns-in-160-clause-fault
read_after_code-returns-in-160-clause-fault t c = fails-at c.read_named.result _ _ (byte-fault c.args.depth c.args.code code.Vbin8 c.args.bytes.now.now c.in-160.is refl) c.read_named.ensures.fault

pub read_after_code-returns-in-161-clause-fault : goal.read_after_code-returns-in-161-clause-fault
read_after_code-returns-in-161-clause-fault t c = fails-at c.read_named-in-161.result _ _ (byte-fault c.args.depth c.args.code code.Str8 c.args.bytes.now.now c.in-161.is refl) c.read_named-in-161.ensures.fault

pub read_after_code-returns-in-163-clause-fault : goal.read_after_code-returns-in-163-clause-fault
read_after_code-returns-in-163-clause-fault t c = fails-at c.read_named-in-163.result _ _ (byte-fault c.args.depth c.args.code code.Sym8 c.args.bytes.now.now c.in-163.is refl) c.read_named-in-163.ensures.fault

pub read_after_code-returns-in-192-clause-fault : goal.read_after_code-returns-in-192-clause-fault
read_after_code-returns-in-192-clause-fault t c = fails-at c.read_named-in-192.result _ _ (byte-fault c.args.depth c.args.code code.List8 c.args.bytes.now.now c.in-192.is refl) c.read_named-in-192.ensures.fault

pub read_after_code-returns-in-177-clause-fault : goal.read_after_code-returns-in-177-clause-fault
read_after_code-returns-in-177-clause-fault t c = fails-at c.read_named-in-177.result _ _ (byte-fault c.args.depth c.args.code code.Str32 c.args.bytes.now.now c.in-177.is refl) c.read_named-in-177.ensures.fault

pub read_after_code-returns-in-208-clause-fault : goal.read_after_code-returns-in-208-clause-fault
read_after_code-returns-in-208-clause-fault t c = fails-at c.read_named-in-208.result _ _ (byte-fault c.args.depth c.args.code code.List32 c.args.bytes.now.now c.in-208.is refl) c.read_named-in-208.ensures.fault

pub read_entries-returns-in_err-key-clause-fault : goal.read_entries-returns-in_err-key-clause-fault
read_entries-returns-in_err-key-clause-fault t c =
    let even : c.args.count % 2 ≡ 0 = search (arith, rules) in
    let fails = fails-there _ _ _ (parse c.args.depth c.loop.rest.now ≡ None) c.in_err-key.ensures.err c.in_err-key.ensures.fault
    (λ h. key-fault (fault_in c.args.depth) (parse c.args.depth) (c.args.count / 2) c.loop.counter c.loop.rest.now c.loop-test.true h
    ∙ (c.loop.invariant.fault ∙ even-map (fault_in c.args.depth) (parse c.args.depth) c.args.count c.args.body.now even)) in
    search (rules, fails)

pub read_entries-returns-in_err-value-clause-fault : goal.read_entries-returns-in_err-value-clause-fault
read_entries-returns-in_err-value-clause-fault t c =
    let even : c.args.count % 2 ≡ 0 = search (arith, rules) in
    let fails = fails-there _ _ _ (parse c.args.depth c.read_value.new.bytes.now ≡ None) c.in_err-value.ensures.err c.in_err-value.ensures.fault
    (λ h. value-fault (fault_in c.args.depth) (parse c.args.depth) (c.args.count / 2) c.loop.counter c.loop.rest.now c.read_value.new.bytes.now (tree_of c.in_ok-key.key) c.loop-test.true c.in_ok-key.ensures.ok h
    ∙ (c.loop.invariant.fault ∙ even-map (fault_in c.args.depth) (parse c.args.depth) c.args.count c.args.body.now even)) in
    search (rules, fails)
