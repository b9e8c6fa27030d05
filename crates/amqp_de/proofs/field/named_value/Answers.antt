use Rattle.std.proofs.Common.{inl, inr, refl, ◌∙◌}
use Rattle.std.proofs.lemmas.Result.{IfOk-weaker, IfErr-weaker}
use Rattle.amqp_de.proofs.field.named_value.Goals as goal

pub returns-in-None-clause-ok : goal.returns-in-None-clause-ok
returns-in-None-clause-ok g c = IfOk-weaker c.read_absent.result _ _ (λ x absent ps h. let (old, more) = c.in-None.ensures.none ps h in (ps, old, inr (refl, absent, more))) c.read_absent.ensures.ok

pub returns-in-None-clause-whole : goal.returns-in-None-clause-whole
returns-in-None-clause-whole g c = IfOk-weaker c.read_absent.result _ _ (λ x absent w. let (are, none, after) = c.in-None.ensures.none_whole w in (are, after)) c.read_absent.ensures.ok

pub returns-in-None-clause-err : goal.returns-in-None-clause-err
returns-in-None-clause-err g c = IfErr-weaker c.read_absent.result _ _ (λ e must w. let (are, none, after) = c.in-None.ensures.none_whole w in inr (none, must)) c.read_absent.ensures.err

pub returns-clause-ok : goal.returns-clause-ok
returns-clause-ok g c ps h =
    let (qs, there, at, after, more) = c.in-Some.ensures.some c.in-Ok.read.1 ps c.in-Ok.ensures.read.1 (c.resume_entries.ensures.holds ps h) in
    (qs, there, inl (g.S.Source.value c.in-Some.entry, at, after, (c.in-Ok.ensures.read.0, c.in-Ok.ensures.law), more))

pub returns-clause-whole : goal.returns-clause-whole
returns-clause-whole g c w =
    let (whole, are, at, after) = c.in-Some.ensures.some_whole w in
    let r = c.resume_entries.ensures.whole are in
    (r.0, r.1 ∙ after)

pub returns-in-Err-clause-err : goal.returns-in-Err-clause-err
returns-in-Err-clause-err g c w =
    let (whole, are, at, after) = c.in-Some.ensures.some_whole w in
    inl (
      g.S.Source.value c.in-Some.entry,
      at,
      (
        elim (c.in-Err.ensures.read whole) [
          | inl m ↦ inl (c.placed.ensures ∙ m)
          | inr n ↦ inr n
        ],
        λ x p e. c.placed.ensures ∙ c.in-Err.ensures.law x p e whole,
      ),
    )
