use Rattle.std.proofs.Common.{◌≡◌, true, false}
use Rattle.std.specs.Str.{is_utf8}
use Rattle.std.proofs.lemmas.Str.{is_utf8-from_IsUtf8}
use Rattle.amqp_decode.proofs.scalar_check.text_place.Goals as goal

pub returns-in-Ok : goal.returns-in-Ok
returns-in-Ok c =
    let yes : is_utf8 c.args.content.now ≡ true = is_utf8-from_IsUtf8 c.args.content.now c.in-Ok.ensures.cases.1 in
    let no : is_utf8 c.args.content.now ≡ false = c.requires.invalid in
    absurd cc
