use Rattle.std.proofs.Common.{◌∙◌, ◌-◌, length, arith}
use Rattle.amqp_frame.proofs.Filled.{fills-more, length-put}
use Rattle.amqp_frame.proofs.readers.fill.Goals as goal

pub loop-at-preserved : goal.loop-at-preserved
loop-at-preserved g c =
    let was = c.loop-at.invariant in
    let bound = c.in_ok-count.ensures.bound in
    record {
      within = omega (
        arith,
        length-put c.loop-at.at (length c.loop-at.buf - c.loop-at.at) c.loop-at.buf
            c.read_some.new.buf was.within,
      );
      taken = fills-more _ _ _ _ _ _ _ _ was.within bound was.taken c.in_ok-count.ensures.ok;
      same = c.in_ok-count.ensures.same ∙ was.same;
    }
