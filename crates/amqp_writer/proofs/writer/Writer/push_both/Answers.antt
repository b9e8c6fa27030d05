use Rattle.std.proofs.Common.{◌≡◌, ◌+◌, ◌<◌, ◌++◌, length, length-append, arith}
use Rattle.amqp_writer.proofs.Forms.{fits_both}
use Rattle.amqp_writer.proofs.writer.Writer.push_both.Goals as goal

pub returns-clause-appended : goal.returns-clause-appended
returns-clause-appended c = λ wide.
    let a = c.args.first.now in
    let b = c.args.second.now in
    let long : length (a ++ b) ≡ length a + length b = length-append a b in (
      fits_both _ c.push.new.out _ _ c.push.new.self.at a b c.push.ensures.appended.0 c.push-2.ensures.appended.0 c.push.ensures.len
          (λ fits. c.push.ensures.appended.1 (omega (arith, wide, fits))),
      λ small.
          let first = c.push.ensures.appended.1 (omega (arith, small, long)) in
          let second = c.push-2.ensures.appended.1 (omega (arith, small, long, first)) in
          omega (arith, first, second, long),
    )
