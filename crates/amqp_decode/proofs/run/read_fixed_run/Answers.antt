use Rattle.std.proofs.Common.{rules, ◌≡◌, [], ◌∷◌, ◌++◌, Some, sym, ◌∙◌}
use Rattle.amqp_value.specs.TreeOf.{tree_of}
use Rattle.amqp_data.specs.FormatCode.{code_of}
use Rattle.amqp_decode.specs.Parsed.{parse_content, payload_in}
use Rattle.amqp_decode.specs.WithoutBytes.{content_without_bytes, in_payload}
use Rattle.amqp_decode.proofs.Steps.{item-found, values-and_then}
use Rattle.amqp_decode.specs.Faults.{fault_in_item}
use Rattle.amqp_decode.proofs.Counts.{item-count, sum-none}
use Rattle.amqp_decode.proofs.FaultLemmas.{values-step}
use Rattle.amqp_decode.proofs.run.read_fixed_run.Goals as goal

pub loop-read-preserved : goal.loop-read-preserved
loop-read-preserved c =
    let byte : c.from-byte.result ≡ code_of c.args.code = search rules in
    let item : payload_in (parse_content c.args.depth) c.args.code c.loop-read.rest.now ≡ Some (tree_of c.in-Some.value, c.in-Some.after.now) =
    item-found c.args.depth c.args.code c.loop-read.rest.now (Some (tree_of c.in-Some.value, c.in-Some.after.now)) c.requires
    (λ zero. c.in-Some.ensures.primitive (byte ∙ zero))
    (λ f h. rw (sym byte) (c.in-Some.ensures.found f h)) in
    let step = values-and_then (payload_in (parse_content c.args.depth) c.args.code) c.args.count c.loop-read.read c.loop-read.rest.now c.in-Some.after.now c.in-Some.value c.loop-read.items.items c.loop-read-test.true item in
    let pushed : c.push.new.self.items ≡ c.loop-read.items.items ++ c.in-Some.value ∷ [] = search rules in
    let none : in_payload (content_without_bytes c.args.depth) c.args.code c.loop-read.rest.now ≡ 0 =
    item-count c.args.depth c.args.code c.loop-read.rest.now (tree_of c.in-Some.value, c.in-Some.after.now) c.requires
    (λ zero. c.in-Some.ensures.primitive (byte ∙ zero))
    (λ f h. rw (sym byte) (c.in-Some.ensures.found f h)) in
    record {
      values = rw pushed (step ∙ c.loop-read.invariant.values);
      none = sum-none (in_payload (content_without_bytes c.args.depth) c.args.code) (payload_in (parse_content c.args.depth) c.args.code) c.args.count c.loop-read.read c.loop-read.rest.now c.in-Some.after.now (tree_of c.in-Some.value) _ c.loop-read-test.true item none c.loop-read.invariant.none;
      faults = values-step (fault_in_item c.args.depth c.args.code) (payload_in (parse_content c.args.depth) c.args.code) c.args.count c.loop-read.read c.loop-read.rest.now c.in-Some.after.now (tree_of c.in-Some.value) c.loop-read-test.true item ∙ c.loop-read.invariant.faults;
    }
