use Rattle.std.proofs.Common.{rules, ◌≡◌}
use Rattle.std.specs.Int.{w64, from_be_bytes}
use Rattle.amqp_decode.proofs.DescriptorForms.{number_short, number_long}
use Rattle.amqp_decode.proofs.prefix.compounds.numeric.Goals as goal

pub returns-in_ok-value-in-83 : goal.returns-in_ok-value-in-83
returns-in_ok-value-in-83 c =
    let same : c.from.result ≡ c.in_ok-value-in-83.value = search rules in
    rw (c.in-83.is, c.in_ok-value-in-83.ensures, same) (number_short c.in_ok-value-in-83.value c.in_ok-value-in-83.rest.now)

pub returns-in_ok-value-in-128 : goal.returns-in_ok-value-in-128
returns-in_ok-value-in-128 c =
    let same : c.from_be_bytes.result ≡ from_be_bytes w64 c.in_ok-value-in-128.value = search rules in
    rw (c.in-128.is, same) (number_long c.args.bytes.now c.in_ok-value-in-128.value c.in_ok-value-in-128.rest.now c.in_ok-value-in-128.ensures.0 c.in_ok-value-in-128.ensures.1)
