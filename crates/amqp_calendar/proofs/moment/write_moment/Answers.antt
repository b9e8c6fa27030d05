use Rattle.std.proofs.Common.{◌≡◌, ℤ, ℕ, refl, sym, ◌∙◌, rules}
use Rattle.amqp_calendar.specs.Moment.{date_and_time_text, moment_text}
use Rattle.amqp_calendar.specs.DateOf.{date_of}
use Rattle.amqp_calendar.proofs.DateOfLemmas.{date_of_is}
use Rattle.amqp_calendar.proofs.moment.write_moment.Goals as goal

same_text : (y z : ℤ) (m n d e t u : ℕ) → (y ≡ z) × (m ≡ n) × (d ≡ e) → u ≡ t → date_and_time_text z n e u ≡ date_and_time_text y m d t
same_text y z m n d e t u h k = rw (h.0, h.1, h.2, k) refl

pub returns : goal.returns
returns g c =
    let day = c.split_day-days.result.0 in
    let found = date_of_is day in
    let parts = c.civil_from_days-year.result in
    let same = c.civil_from_days-year.ensures.only _ _ _ found.0 (found.1 ∙ search rules) in
    let text : date_and_time_text parts.0 parts.1 parts.2 c.split_day-days.result.1 ≡ moment_text c.args.milliseconds =
    same_text (date_of day).0 parts.0 (date_of day).1 parts.1 (date_of day).2 parts.2 _ _ same refl ∙ search rules in
    rw (sym text) (search rules)
