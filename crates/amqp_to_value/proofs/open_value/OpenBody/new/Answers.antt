use Rattle.amqp_to_value.proofs.ValueSerializerLemmas.{not_single, nothing_held}
use Rattle.amqp_to_value.proofs.open_value.OpenBody.new.Goals as goal

pub returns-in_default : goal.returns-in_default
returns-in_default c =
    let other = not_single c.args.kind c.in_default.not-Single in
    (other, nothing_held c.args.pending c.args.kind c.new.result c.new.ensures.empty (c.new.ensures.makes other))
