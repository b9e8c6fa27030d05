use Rattle.std.proofs.Common.{◌≡◌, ◌-◌, ◌^◌, ap, Ok, arith}
use Rattle.std.proofs.lemmas.Result.{err_from_is_err_and}
use Rattle.serde_amqp.proofs.Runs.{progress-step, run-ends, run-reads, run-refused, run-finish-refused, either-failed}
use Rattle.serde_amqp.proofs.cut.print_encoded_values.Goals as goal

pub returns-in_err-print_next-clause-refused : goal.returns-in_err-print_next-clause-refused
returns-in_err-print_next-clause-refused g c =
    let p = err_from_is_err_and c.from_residual.result c.from_residual.ensures.1 in
    rw (p.1, p.2) (run-refused c.some_cut.ensures _ _ _ _ _ _ c.in_err-print_next.field-0.0 c.loop-encoded.invariant.done c.in_err-print_next.ensures.refused)

pub returns-then-not-branch-clause-ok : goal.returns-then-not-branch-clause-ok
returns-then-not-branch-clause-ok g c =
    let ended = c.in_ok-print_next.ensures.done (ap Ok c.if-not-branch.true) in
    run-ends c.some_byte.ensures _ _ _ _ _ _ c.loop-encoded.invariant.done ended.0 ended.2

pub returns-then-not-branch-clause-read : goal.returns-then-not-branch-clause-read
returns-then-not-branch-clause-read g c =
    let ended = c.in_ok-print_next.ensures.done (ap Ok c.if-not-branch.true) in
    run-reads _ _ _ _ _ _ c.loop-encoded.invariant.done ended.0 ended.1

pub loop-encoded-preserved : goal.loop-encoded-preserved
loop-encoded-preserved g c =
    let more = c.in_ok-print_next.ensures.more (ap Ok c.if-not-branch.false) in
    record {
      done = progress-step _ _ _ _ _ _ _ c.loop-encoded.invariant.done more;
      reads = omega (arith, c.loop-encoded.invariant.reads, c.print_next.ensures.reads);
      writes = omega (arith, c.loop-encoded.invariant.writes, c.print_next.ensures.writes);
    }

pub returns-clause-refused : goal.returns-clause-refused
returns-clause-refused g c =
    let n : c.loop-encoded._encoded ≡ 2 ^ 64 - 1 = omega arith in
    let done = rw n at c.loop-encoded.invariant.done in
    run-finish-refused c.some_cut.ensures c.finish.result _ _ _ _ _ done c.finish.ensures.written c.finish.ensures.more c.finish.ensures.others

pub returns-clause-io : goal.returns-clause-io
returns-clause-io g c = λ e. either-failed _ _ _ _ _ _ c.loop-encoded.invariant.reads c.finish.ensures.reads c.loop-encoded.invariant.writes c.finish.ensures.writes (c.finish.ensures.io e)
