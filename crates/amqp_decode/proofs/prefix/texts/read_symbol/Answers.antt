use Rattle.std.proofs.Common.{rules, ◌≡◌}
use Rattle.std.specs.Prelude.{string_bytes}
use Rattle.amqp_data.specs.Text.{symbol_text}
use Rattle.amqp_decode.proofs.ScalarForms.{symbol-is, long_symbol-is}
use Rattle.amqp_decode.proofs.prefix.texts.read_symbol.Goals as goal

pub returns-in_ok-text-in-163 : goal.returns-in_ok-text-in-163
returns-in_ok-text-in-163 c =
    let same : symbol_text c.from-value.result ≡ string_bytes c.in_ok-text-in-163.text = search rules in
    rw (c.in-163.is, same, c.in_ok-text-in-163.ensures.ok) (symbol-is c.args.bytes.now _ _ c.in_ok-content-in-163.ensures c.in_ok-text-in-163.ensures.valid)

pub returns-in_ok-text-in-179 : goal.returns-in_ok-text-in-179
returns-in_ok-text-in-179 c =
    let same : symbol_text c.from-value-in-179.result ≡ string_bytes c.in_ok-text-in-179.text = search rules in
    rw (c.in-179.is, same, c.in_ok-text-in-179.ensures.ok) (long_symbol-is c.args.bytes.now _ _ c.in_ok-content-in-179.ensures c.in_ok-text-in-179.ensures.valid)
