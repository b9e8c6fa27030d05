use Rattle.std.proofs.Common.{◌≡◌, ◌<◌, false, length, rules, arith}
use Rattle.amqp_value.proofs.EscapeLemmas.{run_grows, run_starts, one_unescaped}
use Rattle.amqp_value.proofs.escape.unescaped_end.Goals as goal

pub loop-to-init : goal.loop-to-init
loop-to-init c = record {
  low = omega arith;
  high = omega (arith, c.requires.inside);
  plain = run_starts c.args.bytes.now c.args.from c.requires.inside c.requires.plain;
}

pub loop-to-preserved : goal.loop-to-preserved
loop-to-preserved c =
    let plain : c.has_escape.result ≡ false = search rules in
    let before = c.loop-to.invariant in record {
      low = omega (arith, before.low);
      high = omega (arith, c.loop-to-test.true, before.high);
      plain = run_grows c.args.bytes.now c.args.from c.loop-to.to _ (omega (arith, before.low)) (omega arith) before.plain (c.has_escape.ensures plain);
    }

pub loop-to-2-preserved : goal.loop-to-2-preserved
loop-to-2-preserved c =
    let plain : c.needs_escape.result ≡ false = search rules in
    let inside : c.loop-to-2.to < length c.args.bytes.now = c.loop-to-2-test.true in
    let before = c.loop-to-2.invariant in record {
      low = omega (arith, before.low);
      high = omega (arith, inside);
      plain = run_grows c.args.bytes.now c.args.from c.loop-to-2.to _ (omega (arith, before.low)) (omega arith) before.plain
          (one_unescaped c.args.bytes.now c.loop-to-2.to inside (c.needs_escape.ensures.plain plain));
    }
