use Rattle.std.proofs.Common.{rules, sym, arith}
use Rattle.std.proofs.Output.{has_written_of_eq, has_written_append}
use Rattle.std.specs.Prelude.{IsOk}
use Rattle.amqp_data.proofs.DigitLemmas.{hex_more}
use Rattle.amqp_data.proofs.hexadecimal.write_hexadecimal.Goals as goal

pub loop-from-preserved : goal.loop-from-preserved
loop-from-preserved g c plain =
    let done = c.loop-from.invariant plain in
    let ok : IsOk c.write_block.result = search rules in
    has_written_of_eq _ _ _ _ _ (sym (hex_more c.args.bytes.now c.loop-from.from c.min-to.result (omega arith)))
    (has_written_append _ _ _ _ _ _ done (c.write_block.ensures done.plain ok))
