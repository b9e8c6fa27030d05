-- A day has only one date.
use Rattle.std.proofs.Common.{◌≡◌, ℕ, suc, ◌+◌, ◌-◌, ◌*◌, ◌<◌, ◌≤◌, inl, inr, refl, sym, subst, arith, ℤ, pos, ◌+ℤ◌, ◌<ℤ◌}
use Rattle.std.proofs.lemmas.Bool.{cases_order}
use Rattle.std.proofs.lemmas.Int.{by_lt_z}
use Rattle.amqp_calendar.specs.Years.{start}
use Rattle.amqp_calendar.specs.Dates.{months_before, day_number, IsDate}
use Rattle.amqp_calendar.specs.Cycles.{days_of}
use Rattle.amqp_calendar.proofs.SignedRules.{signed}
use Rattle.amqp_calendar.proofs.MonthLemmas.{in_year, before_later}
use Rattle.amqp_calendar.proofs.YearLemmas.{start_is, start_later}
use borrow.Author.Differences.{up, down}

pub opened : (y : ℤ) (m d : ℕ) → day_number y m d ≡ start y +ℤ pos (months_before y (m - 1) + (d - 1))
unfolding day_number
opened y m d = refl

pub day_number_is : (y : ℤ) (n m d : ℕ) (days : ℤ) → y +ℤ pos 292_280_000 ≡ pos (suc n) → 1 ≤ d → days_of n + (months_before y (m - 1) + (d - 1)) + down days ≡ up days + (730_700 * 146_097 + 719_162) → day_number y m d ≡ days
day_number_is y n m d days e h is = omega (arith, signed, opened y m d, start_is y n e)

earlier_year : (y : ℤ) (m d : ℕ) (z : ℤ) (n e : ℕ) → IsDate y m d → IsDate z n e → y <ℤ z → ¬ (day_number y m d ≡ day_number z n e)
earlier_year y m d z n e h k lt is =
    let gap = up z + down y - (down z + up y + 1) in
    let there : z ≡ y +ℤ pos (suc gap) = omega (arith, signed) in
    omega (arith, signed, opened y m d, opened z n e, in_year y m d h, h.2, k.2, start_later y z gap there)

earlier_month : (y : ℤ) (m d n e : ℕ) → IsDate y m d → IsDate y n e → m < n → ¬ (day_number y m d ≡ day_number y n e)
earlier_month y m d n e h k lt is =
    omega (arith, signed, opened y m d, opened y n e, before_later y m d (n - 1) h (omega arith), h.2, k.2)

earlier_day : (y : ℤ) (m d e : ℕ) → IsDate y m d → IsDate y m e → d < e → ¬ (day_number y m d ≡ day_number y m e)
earlier_day y m d e h k lt is =
    omega (arith, signed, opened y m d, opened y m e, h.2, k.2)

abbrev Same : ℤ → ℕ → ℕ → ℤ → ℕ → ℕ → Type 0
Same y m d z n e = (y ≡ z) × (m ≡ n) × (d ≡ e)

same_month : (y : ℤ) (m d e : ℕ) → IsDate y m d → IsDate y m e → day_number y m d ≡ day_number y m e → d ≡ e
same_month y m d e h k is = elim (cases_order d e) [
  | inl same ↦ same
  | inr (inl lt) ↦ absurd (earlier_day y m d e h k lt is)
  | inr (inr gt) ↦ absurd (earlier_day y m e d k h gt (sym is))
]

same_year : (y : ℤ) (m d n e : ℕ) → IsDate y m d → IsDate y n e → day_number y m d ≡ day_number y n e → (m ≡ n) × (d ≡ e)
same_year y m d n e h k is = elim (cases_order m n) [
  | inl same ↦ (same, same_month y n d e (subst (λ x. IsDate y x d) same h) k (subst (λ x. day_number y x d ≡ day_number y n e) same is))
  | inr (inl lt) ↦ absurd (earlier_month y m d n e h k lt is)
  | inr (inr gt) ↦ absurd (earlier_month y n e m d k h gt (sym is))
]

pub one_date : (y : ℤ) (m d : ℕ) (z : ℤ) (n e : ℕ) → IsDate y m d → IsDate z n e → day_number y m d ≡ day_number z n e → Same y m d z n e
one_date y m d z n e h k is =
    by_lt_z y z (λ lt. absurd (earlier_year y m d z n e h k lt is)) (λ ge. by_lt_z z y (λ gt. absurd (earlier_year z n e y m d k h gt (sym is)))
    (λ le. let same : y ≡ z = omega (arith, signed) in
    let rest = same_year z m d n e (subst (λ x. IsDate x m d) same h) k (subst (λ x. day_number x m d ≡ day_number z n e) same is) in
    (same, rest.0, rest.1)))
