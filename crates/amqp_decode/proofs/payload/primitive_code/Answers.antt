use Rattle.std.proofs.Common.{ap, ◌∙◌}
use Rattle.amqp_decode.specs.Codes.{primitive_of}
use Rattle.amqp_decode.proofs.CodeLemmas.{named-ok, unnamed-err, primitive-zero}
use Rattle.amqp_decode.proofs.payload.primitive_code.Goals as goal

pub returns-then-byte-eq0-clause-err : goal.returns-then-byte-eq0-clause-err
returns-then-byte-eq0-clause-err c = ap primitive_of c.if-byte-eq0.true ∙ primitive-zero

pub returns-clause-ok : goal.returns-clause-ok
returns-clause-ok c = named-ok c.args.byte c.try_from.result c.if-byte-eq0.false c.try_from.ensures

pub returns-clause-err : goal.returns-clause-err
returns-clause-err c = unnamed-err c.args.byte c.try_from.result c.try_from.ensures
