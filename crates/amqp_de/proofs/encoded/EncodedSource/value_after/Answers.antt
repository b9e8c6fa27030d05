use Rattle.std.proofs.Common.{rules, ◌≡◌, ◌∷◌, suc, ap, ◌∙◌}
use Rattle.amqp_decode.specs.Parsed.{parse}
use Rattle.amqp_decode.specs.WithoutBytes.{elements_without_bytes}
use Rattle.amqp_de.proofs.encoded.EncodedSource.value_after.Goals as goal

pub returns-in-Some-clause-ok : goal.returns-in-Some-clause-ok
returns-in-Some-clause-ok c r ps left waits =
    let d = c.args.entries.now.depth in
    let whole : c.args.rest.now ≡ c.in-Some.code.now ∷ c.in-Some.bytes.now = search rules in
    (r.now, ap (parse (suc d)) whole ∙ left.0, ap (elements_without_bytes (suc d)) whole ∙ left.1, waits)
