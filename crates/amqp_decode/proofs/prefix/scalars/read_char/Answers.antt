use Rattle.std.proofs.Common.{rules}
use Rattle.amqp_decode.proofs.ScalarForms.{char-is}
use Rattle.amqp_decode.proofs.prefix.scalars.read_char.Goals as goal

pub returns-in_ok-character-in-115 : goal.returns-in_ok-character-in-115
returns-in_ok-character-in-115 c =
    rw c.in-115.is (char-is c.args.bytes.now c.in_ok-value-in-115.value c.in_ok-value-in-115.rest.now c.from_be_bytes.result _ (search rules) c.in_ok-value-in-115.ensures.0 c.in_ok-value-in-115.ensures.1
    c.in_ok-character-in-115.ensures)
