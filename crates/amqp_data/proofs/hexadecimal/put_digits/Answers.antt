use Rattle.std.proofs.Common.{arith}
use Rattle.amqp_data.proofs.DigitLemmas.{hex_ascii, put_step}
use Rattle.amqp_data.proofs.hexadecimal.put_digits.Goals as goal

pub returns-clause-ascii : goal.returns-clause-ascii
returns-clause-ascii c = hex_ascii c.args.bytes.now (λ i. omega (arith, c.type_inv.bytes i))

pub loop-index-preserved : goal.loop-index-preserved
loop-index-preserved c =
    put_step c.args.bytes.now c.loop-index.text _ c.args.at c.loop-index.index (omega arith) (omega (arith, c.loop-index.auto.text)) (omega (arith, c.type_inv.bytes c.loop-index.index)) c.loop-index.invariant
