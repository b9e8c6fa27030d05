use Rattle.std.proofs.Common.{rules, ◌≡◌}
use Rattle.amqp_data.specs.Fixed.{uuid_bytes}
use Rattle.amqp_decode.proofs.ScalarForms.{uuid-is}
use Rattle.amqp_decode.proofs.prefix.scalars.read_uuid.Goals as goal

pub returns-in_ok-value-in-152 : goal.returns-in_ok-value-in-152
returns-in_ok-value-in-152 c =
    let same : uuid_bytes c.from.result ≡ c.in_ok-value-in-152.value = search rules in
    rw (c.in-152.is, same) (uuid-is c.args.bytes.now c.in_ok-value-in-152.value c.in_ok-value-in-152.rest.now c.in_ok-value-in-152.ensures.0 c.in_ok-value-in-152.ensures.1)
