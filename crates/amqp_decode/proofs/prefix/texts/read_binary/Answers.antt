use Rattle.std.proofs.Common.{rules, ◌≡◌}
use Rattle.amqp_data.specs.Items.{byte_buf_bytes}
use Rattle.amqp_decode.proofs.ScalarForms.{binary-is, long_binary-is}
use Rattle.amqp_decode.proofs.prefix.texts.read_binary.Goals as goal

pub returns-in_ok-copy-in-160 : goal.returns-in_ok-copy-in-160
returns-in_ok-copy-in-160 c =
    let same : byte_buf_bytes c.from-value.result ≡ c.in_ok-copy-in-160.copy.items = search rules in
    rw (c.in-160.is, same, c.in_ok-copy-in-160.ensures.ok) (binary-is c.args.bytes.now _ _ c.in_ok-content-in-160.ensures)

pub returns-in_ok-copy-in-176 : goal.returns-in_ok-copy-in-176
returns-in_ok-copy-in-176 c =
    let same : byte_buf_bytes c.from-value-in-176.result ≡ c.in_ok-copy-in-176.copy.items = search rules in
    rw (c.in-176.is, same, c.in_ok-copy-in-176.ensures.ok) (long_binary-is c.args.bytes.now _ _ c.in_ok-content-in-176.ensures)
