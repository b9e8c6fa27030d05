use Rattle.std.proofs.Common.{rules, ◌≡◌, ◌∷◌}
use Rattle.amqp_de.proofs.EncodedLemmas.{name_key}
use Rattle.amqp_de.proofs.encoded_parts.split_name.Goals as goal

pub returns-in-Ok-split_byte-clause-key : goal.returns-in-Ok-split_byte-clause-key
returns-in-Ok-split_byte-clause-key c d =
    let whole : c.args.body.now ≡ c.in-Ok.code ∷ c.in-Ok.after.now = search rules in
    let same : c.in-Ok-split_string.text.now ≡ c.args.name.now = search rules in
    let next : c.in-Ok-split_string.rest.now ≡ c.in-Ok-split_byte.of_value ∷ c.in-Ok-split_byte.payload.now = search rules in
    name_key c.args.body.now (c.in-Ok.code ∷ c.in-Ok.after.now) c.in-Ok-split_string.rest.now _ c.in-Ok-split_string.text.now c.args.name.now whole same next c.in-Ok-split_string.ensures d
