use Rattle.std.proofs.Common.{length-drop, arith}
use Rattle.amqp_frame.proofs.Primitive.{rest-is}
use Rattle.serde_amqp.proofs.Written.{writes-more}
use Rattle.serde_amqp.proofs.writers.put_all.Goals as goal

pub loop-at-preserved : goal.loop-at-preserved
loop-at-preserved g c =
    let was = c.loop-at.invariant in
    let bound = rw (rest-is c.args.bytes.now c.loop-at.at) at c.in-Ok.ensures.bound in
    record {
      within = omega (arith, length-drop c.loop-at.at c.args.bytes.now);
      taken = writes-more _ _ _ c.args.bytes.now _ _ was.taken c.in-Ok.ensures.bytes;
      same = was.same;
    }
