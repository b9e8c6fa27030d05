use Rattle.std.proofs.Common.{rules, ◌≡◌}
use Rattle.amqp_data.specs.Fixed.{dec32_bytes}
use Rattle.amqp_decode.proofs.ScalarForms.{decimal32-is}
use Rattle.amqp_decode.proofs.prefix.scalars.read_decimal32.Goals as goal

pub returns-in_ok-value-in-116 : goal.returns-in_ok-value-in-116
returns-in_ok-value-in-116 c =
    let same : dec32_bytes c.from.result ≡ c.in_ok-value-in-116.value = search rules in
    rw (c.in-116.is, same) (decimal32-is c.args.bytes.now c.in_ok-value-in-116.value c.in_ok-value-in-116.rest.now c.in_ok-value-in-116.ensures.0 c.in_ok-value-in-116.ensures.1)
