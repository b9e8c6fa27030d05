use Rattle.std.proofs.Common.{rules, ◌≡◌}
use Rattle.amqp_data.specs.Fixed.{dec128_bytes}
use Rattle.amqp_decode.proofs.ScalarForms.{decimal128-is}
use Rattle.amqp_decode.proofs.prefix.scalars.read_decimal128.Goals as goal

pub returns-in_ok-value-in-148 : goal.returns-in_ok-value-in-148
returns-in_ok-value-in-148 c =
    let same : dec128_bytes c.from.result ≡ c.in_ok-value-in-148.value = search rules in
    rw (c.in-148.is, same) (decimal128-is c.args.bytes.now c.in_ok-value-in-148.value c.in_ok-value-in-148.rest.now c.in_ok-value-in-148.ensures.0 c.in_ok-value-in-148.ensures.1)
