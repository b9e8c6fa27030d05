use Rattle.std.proofs.Common.{rules, ◌≡◌, sym, ap, ◌∙◌}
use Rattle.amqp_decode.proofs.NotNull.{not_null}
use Rattle.amqp_de.proofs.EncodedLemmas.{null_value}
use Rattle.amqp_de.proofs.encoded.EncodedSource.is_null.Goals as goal

pub returns-then-self-eq64-clause-null : goal.returns-then-self-eq64-clause-null
returns-then-self-eq64-clause-null c test = null_value c.args.self.now.depth c.args.self.now.code c.args.self.now.bytes.now c.if-self-eq64.true

pub returns-else-self-eq64-clause-other : goal.returns-else-self-eq64-clause-other
returns-else-self-eq64-clause-other c r left is = absurd (not_null c.args.self.now.depth c.args.self.now.code c.args.self.now.bytes.now _ r.now c.if-self-eq64.false left.0 is)
