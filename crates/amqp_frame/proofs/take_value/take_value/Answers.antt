use Rattle.std.proofs.Common.{◌≡◌, ◌≤◌, ◌<◌, ◌∷◌, [], ◌++◌, length, sym, ap, length-append, arith}
use Rattle.std.proofs.lemmas.Result.{err_from_is_err_and}
use Rattle.std.proofs.KnownBytes.{Consumes-trans}
use Rattle.amqp_frame.proofs.Open.{open-more, open-encoded}
use Rattle.amqp_frame.proofs.Taking.{limited-after, limited-later}
use Rattle.amqp_frame.proofs.Ends.{ends-at-code, ends-in-payload, limit-in-payload, limit-at-code, loses-code, keeps-primitive, grown}
use Rattle.amqp_frame.proofs.take_value.take_value.Goals as goal

pub returns-then-len-limit-clause-refused : goal.returns-then-len-limit-clause-refused
returns-then-len-limit-clause-refused g c =
    let o = c.loop-open.invariant in
    let within = o.within in
    limit-at-code _ _ c.loop-open.collected.items _ c.args.limit o.completes (omega arith)
    (omega (arith, c.loop-open.collected.ok.0)) o.moved

pub returns-in_err-code-clause-refused : goal.returns-in_err-code-clause-refused
returns-in_err-code-clause-refused g c =
    let o = c.loop-open.invariant in
    let p = err_from_is_err_and c.from_residual.result c.from_residual.ensures.1 in
    let collected = c.loop-open.collected.items in
    let at_end = ends-at-code _ _ _ collected _ o.completes (omega arith) o.moved in
    rw (p.1, p.2) (limited-after _ _ _ _ _ _ _ collected o.moved o.count c.next_code.ensures.count at_end (λ h. absurd h)
    c.in_err-code.field-0.0 c.in_err-code.ensures.refused)

pub loop-open-preserved-then-code-eq0 : goal.loop-open-preserved-then-code-eq0
loop-open-preserved-then-code-eq0 g c =
    let o = c.loop-open.invariant in
    let zero : c.in_ok-code.code ≡ 0 = omega arith in
    let was = c.in_ok-code.ensures in
    let consumed = rw zero at was.ok in
    let more : c.push_zero.new.collected.items ≡ c.loop-open.collected.items ++ 0 ∷ [] = c.in_ok-push_zero.ensures.ok in
    record {
      moved = rw more (Consumes-trans _ _ _ _ _ o.moved consumed);
      completes = rw more (open-more _ _ (omega arith) o.completes);
      bound = omega (
        arith,
        c.push_zero.new.collected.ok.0,
        c.loop-open.collected.ok.0,
        ap length more,
        length-append c.loop-open.collected.items (0 ∷ []),
      );
      count = omega (arith, o.count, was.count);
      within = omega (arith, ap length more, length-append c.loop-open.collected.items (0 ∷ []));
    }

pub returns-in_err-push_zero-clause-refused : goal.returns-in_err-push_zero-clause-refused
returns-in_err-push_zero-clause-refused g c =
    let o = c.loop-open.invariant in
    let residual = c.from_residual-in_err-push_zero in
    let p = err_from_is_err_and residual.result residual.ensures.1 in
    let memory = c.in_err-push_zero.ensures.memory in
    let consumed = Consumes-trans _ _ _ _ _ o.moved c.in_ok-code.ensures.ok in
    rw (p.1, p.2, memory) (c.loop-open.collected.items ++ c.in_ok-code.code ∷ [], consumed)

pub returns-then-not-is_primitive-clause-refused : goal.returns-then-not-is_primitive-clause-refused
returns-then-not-is_primitive-clause-refused g c =
    let o = c.loop-open.invariant in
    let was = c.in_ok-code.ensures in
    loses-code _ _ c.loop-open.collected.items c.in_ok-code.code _ o.completes (omega arith) (omega arith)
    (sym c.if-not-is_primitive.ensures) (Consumes-trans _ _ _ _ _ o.moved was.ok)

pub returns-in_err-take_primitive-clause-refused : goal.returns-in_err-take_primitive-clause-refused
returns-in_err-take_primitive-clause-refused g c =
    let o = c.loop-open.invariant in
    let was = c.in_ok-code.ensures in
    let residual = c.from_residual-in_err-take_primitive in
    let p = err_from_is_err_and residual.result residual.ensures.1 in
    let moved = Consumes-trans _ _ _ _ _ o.moved was.ok in
    let refused = c.in_err-take_primitive.ensures.refused in
    let collected = c.loop-open.collected.items ++ c.in_ok-code.code ∷ [] in
    let room : length c.loop-open.collected.items < c.args.limit = omega (arith, c.loop-open.collected.ok.0) in
    let some : 0 < c.loop-open.open = omega arith in
    let count : g.R.Read.failures c.args.reader.now ≤ g.R.Read.failures c.next_code.new.reader
    = omega (arith, o.count, was.count) in
    let primitive = sym c.if-not-is_primitive.ensures in
    let at_limit = limit-in-payload _ _ _ c.loop-open.collected.items c.in_ok-code.code _ c.args.limit o.completes some room
    primitive moved in
    let at_end = ends-in-payload _ _ _ c.loop-open.collected.items c.in_ok-code.code _ o.completes some primitive moved in
    rw (p.1, p.2) (limited-later _ _ _ _ _ _ _ _ collected moved count c.take_primitive.ensures.count at_limit at_end
    (λ h. absurd h) c.in_err-take_primitive.field-0.0 refused)

pub loop-open-preserved : goal.loop-open-preserved
loop-open-preserved g c =
    let o = c.loop-open.invariant in
    let was = c.in_ok-code.ensures in
    let moved = Consumes-trans _ _ _ _ _ o.moved was.ok in
    let payload = c.in_ok-take_primitive.ensures.ok in
    let whole = payload.2 in
    let len : length c.loop-open.collected.items ≤ length c.take_primitive.new.collected.items
    = grown c.loop-open.collected.items c.take_primitive.new.collected.items (c.in_ok-code.code ∷ []) payload.0 whole in
    record {
      moved = rw whole (Consumes-trans _ _ _ _ _ moved payload.1);
      completes = keeps-primitive c.loop-open.collected.items _ c.in_ok-code.code _ payload.0 o.completes (omega arith)
          (sym c.if-not-is_primitive.ensures) payload.3 whole;
      bound = omega (arith, len, c.take_primitive.new.collected.ok.0, c.loop-open.collected.ok.0);
      count = omega (arith, o.count, was.count, c.take_primitive.ensures.count);
      within = omega (arith, c.in_ok-take_primitive.ensures.within, c.take_primitive.new.collected.ok.0);
    }

pub returns-clause-encoded : goal.returns-clause-encoded
returns-clause-encoded g c =
    let zero : c.loop-open.open ≡ 0 = omega arith in
    rw c.in_ok-bytes.ensures.ok (open-encoded _ (rw zero at c.loop-open.invariant.completes), c.loop-open.invariant.moved)
