use Rattle.std.proofs.Common.{◌≡◌, inr, ap, Some, arith, length-drop}
use Rattle.std.proofs.lemmas.List.{drop_all}
use Rattle.amqp_frame.specs.EncodedValue.{IsIncomplete}
use Rattle.amqp_frame.proofs.Open.{open-encoded}
use Rattle.amqp_frame.proofs.Primitive.{open-none, only-length, rest-is, open-skip, open-zero}
use Rattle.amqp_frame.proofs.encoded_value.frame_len.Goals as goal

pub returns-then-at-bytes-clause-none : goal.returns-then-at-bytes-clause-none
returns-then-at-bytes-clause-none c =
    let o = c.loop-open.invariant in
    open-none c.args.bytes.now c.loop-open.at c.loop-open.open (omega arith) o.completes
    (inr (rw (drop_all c.loop-open.at c.args.bytes.now (omega arith)) IsIncomplete.nothing))

pub loop-open-preserved-then-bytes-at-eq0 : goal.loop-open-preserved-then-bytes-at-eq0
loop-open-preserved-then-bytes-at-eq0 c =
    let o = c.loop-open.invariant in
    record {
      within = omega arith;
      bound = omega arith;
      completes = open-zero c.args.bytes.now c.loop-open.at c.loop-open.open (omega arith) (omega arith)
          c.if-bytes-at-eq0.true o.completes;
    }

pub returns-in_default-clause-none : goal.returns-in_default-clause-none
returns-in_default-clause-none c =
    let o = c.loop-open.invariant in
    let none = c.in_default.ensures.none in
    open-none c.args.bytes.now c.loop-open.at c.loop-open.open (omega arith) o.completes
    (rw (rest-is c.args.bytes.now c.loop-open.at) at none)

pub loop-open-preserved : goal.loop-open-preserved
loop-open-preserved c =
    let o = c.loop-open.invariant in
    let bound = c.in-Some.ensures.bound in
    let fits = rw (rest-is c.args.bytes.now c.loop-open.at) at bound.1 in
    let was = c.in-Some.ensures.found in
    let found = rw (rest-is c.args.bytes.now c.loop-open.at) at was in
    record {
      within = omega (arith, length-drop c.loop-open.at c.args.bytes.now);
      bound = omega arith;
      completes = open-skip c.args.bytes.now c.loop-open.at c.in-Some.len c.loop-open.open (omega arith) found
          o.completes;
    }

pub returns-then-at-bytes-clause-only : goal.returns-then-at-bytes-clause-only
returns-then-at-bytes-clause-only c = λ prefix rest f e. absurd (returns-then-at-bytes-clause-none c (prefix, rest, f, e))

pub returns-in_default-clause-only : goal.returns-in_default-clause-only
returns-in_default-clause-only c = λ prefix rest f e. absurd (returns-in_default-clause-none c (prefix, rest, f, e))

pub returns-clause-found : goal.returns-clause-found
returns-clause-found c =
    let o = c.loop-open.invariant in
    let zero : c.loop-open.open ≡ 0 = omega arith in
    let whole = o.completes in
    (o.within, open-encoded _ (rw zero at whole))

pub returns-clause-only : goal.returns-clause-only
returns-clause-only c = λ prefix rest f e.
    let found = returns-clause-found c in
    ap Some (only-length c.args.bytes.now prefix rest c.loop-open.at found.0 found.1 f e)
