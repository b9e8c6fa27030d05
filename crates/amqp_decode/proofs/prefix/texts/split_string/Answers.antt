use Rattle.std.proofs.Common.{rules, ◌≡◌}
use Rattle.std.proofs.lemmas.Str.{is_utf8-from_IsUtf8}
use Rattle.amqp_decode.proofs.ScalarForms.{string-is, long_string-is}
use Rattle.amqp_decode.proofs.prefix.texts.split_string.Goals as goal

pub returns-in-Ok : goal.returns-in-Ok
returns-in-Ok c =
    let same : c.in-Ok.text.now ≡ c.in_ok-content-in-161.content.now = search rules in
    rw (c.in-161.is, same) (string-is c.args.bytes.now _ _ c.in_ok-content-in-161.ensures (is_utf8-from_IsUtf8 c.in_ok-content-in-161.content.now c.in-Ok.ensures.cases.1))

pub returns-in-Ok-from_utf8 : goal.returns-in-Ok-from_utf8
returns-in-Ok-from_utf8 c =
    let same : c.in-Ok-from_utf8.text.now ≡ c.in_ok-content-in-177.content.now = search rules in
    rw (c.in-177.is, same) (long_string-is c.args.bytes.now _ _ c.in_ok-content-in-177.ensures (is_utf8-from_IsUtf8 c.in_ok-content-in-177.content.now c.in-Ok-from_utf8.ensures.cases.1))
