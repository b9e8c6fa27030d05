use Rattle.std.proofs.Common.{rules}
use Rattle.amqp_decode.proofs.SkipScalars.{text-invalid}
use Rattle.amqp_decode.proofs.scalar_check.check_scalar.Goals as goal

pub text_place-requires-clause-invalid : goal.text_place-requires-clause-invalid
text_place-requires-clause-invalid c = text-invalid c.args.code c.args.content.now (search rules) (search rules)
