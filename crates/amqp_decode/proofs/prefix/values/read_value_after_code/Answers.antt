use Rattle.std.proofs.Common.{◌≡◌, ◌∷◌, ◌≤◌, ◌∙◌, Some, arith}
use Rattle.amqp_decode.specs.WithoutBytes.{value_around}
use Rattle.amqp_decode.proofs.ArrayForms.{count_at}
use Rattle.amqp_decode.proofs.Counts.{leaves-within}
use Rattle.amqp_decode.proofs.Levels.{parse_value}
use Rattle.amqp_decode.proofs.prefix.values.read_value_after_code.Goals as goal

pub returns-in-Ok-clause-read : goal.returns-in-Ok-clause-read
returns-in-Ok-clause-read c = parse_value c.args.depth (c.args.code ∷ c.args.bytes.now.now) ∙ c.in-Ok.ensures.ok

pub returns-in-Ok-clause-none : goal.returns-in-Ok-clause-none
returns-in-Ok-clause-none c =
    let within : value_around c.args.depth (c.args.code ∷ c.args.bytes.now.now) ≤ 0 = leaves-within (Some 0) _ _ c.in-Ok.ensures.limit in
    let none : value_around c.args.depth (c.args.code ∷ c.args.bytes.now.now) ≡ 0 = omega (arith, within) in
    count_at c.args.depth (c.args.code ∷ c.args.bytes.now.now) ∙ none
