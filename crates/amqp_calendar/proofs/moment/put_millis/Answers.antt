use Rattle.std.proofs.Common.{List, ℕ, ◌+◌, ◌/◌, ◌%◌, [], ◌∷◌, ◌++◌, take, ap, append_assoc, ◌∙◌, arith}
use Rattle.amqp_calendar.specs.Moment.{padded}
use Rattle.amqp_calendar.proofs.BlockLemmas.{millis_text, two_puts, IsAscii-millis}
use Rattle.amqp_calendar.proofs.moment.put_millis.Goals as goal

pub returns-clause-text : goal.returns-clause-text
returns-clause-text c =
    let n = c.args.millis in
    let before = c.args.text.now in
    let last : List ℕ = (48 + n % 10) ∷ 90 ∷ [] in
    two_puts c.put_after.new.text 22 (48 + n % 10) 90 (omega (arith, c.put_after.array_long))
    ∙ ap (λ (xs : List ℕ). xs ++ last) c.put_after.ensures.text ∙ append_assoc (take 19 before) (46 ∷ padded 2 (n / 10)) last
    ∙ ap (λ (xs : List ℕ). take 19 before ++ xs) (millis_text n c.requires)

pub returns-clause-ascii : goal.returns-clause-ascii
returns-clause-ascii c = IsAscii-millis c.args.millis c.requires
