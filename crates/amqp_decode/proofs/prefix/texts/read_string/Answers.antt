use Rattle.amqp_decode.proofs.ScalarForms.{string-is, long_string-is}
use Rattle.amqp_decode.proofs.prefix.texts.read_string.Goals as goal

pub returns-in_ok-value-in-161 : goal.returns-in_ok-value-in-161
returns-in_ok-value-in-161 c =
    rw (c.in-161.is, c.in_ok-value-in-161.ensures.ok) (string-is c.args.bytes.now _ _ c.in_ok-content-in-161.ensures c.in_ok-value-in-161.ensures.valid)

pub returns-in_ok-value-in-177 : goal.returns-in_ok-value-in-177
returns-in_ok-value-in-177 c =
    rw (c.in-177.is, c.in_ok-value-in-177.ensures.ok) (long_string-is c.args.bytes.now _ _ c.in_ok-content-in-177.ensures c.in_ok-value-in-177.ensures.valid)
