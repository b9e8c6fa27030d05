use Rattle.std.proofs.Common.{arith}
use Rattle.amqp_data.proofs.DigitLemmas.{hex_ascii}
use Rattle.amqp_data.proofs.hexadecimal.put_whole.Goals as goal

pub returns-clause-ascii : goal.returns-clause-ascii
returns-clause-ascii c = hex_ascii c.args.bytes.now (λ i. omega (arith, c.type_inv.bytes i))
