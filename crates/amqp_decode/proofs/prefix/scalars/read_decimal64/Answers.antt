use Rattle.std.proofs.Common.{rules, ◌≡◌}
use Rattle.amqp_data.specs.Fixed.{dec64_bytes}
use Rattle.amqp_decode.proofs.ScalarForms.{decimal64-is}
use Rattle.amqp_decode.proofs.prefix.scalars.read_decimal64.Goals as goal

pub returns-in_ok-value-in-132 : goal.returns-in_ok-value-in-132
returns-in_ok-value-in-132 c =
    let same : dec64_bytes c.from.result ≡ c.in_ok-value-in-132.value = search rules in
    rw (c.in-132.is, same) (decimal64-is c.args.bytes.now c.in_ok-value-in-132.value c.in_ok-value-in-132.rest.now c.in_ok-value-in-132.ensures.0 c.in_ok-value-in-132.ensures.1)
