use Rattle.std.proofs.Common.{◌≡◌, List, ℕ, ◌++◌, length, take, sym, ap, ◌∙◌, rules, arith}
use Rattle.amqp_calendar.proofs.BlockLemmas.{padded_two, two_puts}
use Rattle.amqp_calendar.proofs.moment.put_two.Goals as goal

pub returns-clause-text : goal.returns-clause-text
returns-clause-text c =
    let long : length c.args.text.now ≡ 24 = search rules in
    two_puts c.args.text.now c.args.at _ _ (omega (arith, long, c.requires.fits))
    ∙ ap (λ (xs : List ℕ). take c.args.at c.args.text.now ++ xs) (sym (padded_two c.args.number c.requires.number))
