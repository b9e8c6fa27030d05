use Rattle.std.proofs.Common.{◌<◌, length, rules, sym, arith}
use Rattle.std.proofs.Output.{has_written_of_eq, has_written_append}
use Rattle.std.proofs.lemmas.Str.{IsCharBoundary-start, IsCharBoundary-after_ascii}
use Rattle.std.specs.Prelude.{IsOk}
use Rattle.std.specs.Str.{IsUtf8}
use Rattle.amqp_value.proofs.EscapeLemmas.{one_more, run_text, whole_text}
use Rattle.amqp_value.proofs.escape.escape_all.Goals as goal

pub loop-from-init : goal.loop-from-init
loop-from-init g c =
    let utf8 : IsUtf8 c.as_bytes-bytes.result.now = rw c.as_bytes-bytes.ensures.value c.utf8.text in record {
      boundary = IsCharBoundary-start _ utf8;
      written = search rules;
    }

pub loop-from-preserved-then-needs_escape : goal.loop-from-preserved-then-needs_escape
loop-from-preserved-then-needs_escape g c =
    let utf8 : IsUtf8 c.as_bytes-bytes.result.now = rw c.as_bytes-bytes.ensures.value c.utf8.text in
    let inside : c.loop-from.from < length c.as_bytes-bytes.result.now = c.loop-from-test.true in
    let ok : IsOk c.escape_byte.result = search rules in record {
      boundary = IsCharBoundary-after_ascii _ _ utf8 inside (c.needs_escape.ensures.ascii c.if-needs_escape.true);
      written = λ plain.
          let so_far = c.loop-from.invariant.written plain in
          has_written_of_eq _ _ _ _ _ (sym (one_more _ _ inside)) (has_written_append _ _ _ _ _ _ so_far (c.escape_byte.ensures so_far.plain ok));
    }

pub loop-from-preserved : goal.loop-from-preserved
loop-from-preserved g c =
    let ok : IsOk c.write_unescaped.result = search rules in record {
      boundary = (c.unescaped_end-to.ensures.high, λ inside high. absurd (omega (arith, c.unescaped_end-to.ensures.stop inside, high)));
      written = λ plain.
          let so_far = c.loop-from.invariant.written plain in
          has_written_of_eq _ _ _ _ _ (run_text _ _ _ _ _ c.as_bytes-bytes.ensures.value c.range.ensures.value c.unescaped_end-to.ensures.plain)
          (has_written_append _ _ _ _ _ _ so_far (c.write_unescaped.ensures so_far.plain ok));
    }

pub returns : goal.returns
returns g c plain ok =
    has_written_of_eq _ _ _ _ _ (whole_text _ _ _ c.as_bytes-bytes.ensures.value c.utf8.text (omega (arith, c.loop-from-test.false))) (c.loop-from.invariant.written plain)
