use Rattle.std.proofs.Common.{inl, inr, ◌∷◌, sym, ap, ◌∙◌}
use Rattle.std.proofs.lemmas.Result.{IfOk-weaker, IfErr-weaker}
use Rattle.amqp_de.proofs.field.next_value.Goals as goal

pub returns-in-None-clause-ok : goal.returns-in-None-clause-ok
returns-in-None-clause-ok g c = IfOk-weaker c.read_absent.result _ _ (λ x absent ts h. let (e, old) = c.in-None.ensures.none ts h in inl (e, old, absent)) c.read_absent.ensures.ok

pub returns-in-None-clause-whole : goal.returns-in-None-clause-whole
returns-in-None-clause-whole g c = IfOk-weaker c.read_absent.result _ _ (λ x absent w. let (are, old, new) = c.in-None.ensures.none_whole w in (are, inl (old, new))) c.read_absent.ensures.ok

pub returns-in-None-clause-err : goal.returns-in-None-clause-err
returns-in-None-clause-err g c = IfErr-weaker c.read_absent.result _ _ (λ e must w. let (are, old, new) = c.in-None.ensures.none_whole w in inr (old, must)) c.read_absent.ensures.err

pub returns-clause-ok : goal.returns-clause-ok
returns-clause-ok g c ts h =
    inr (g.S.Source.value c.in-Some.element, c.in-Some.ensures.some c.in-Ok.read.1 ts c.in-Ok.ensures.read.1 (c.resume.ensures.holds ts h), (c.in-Ok.ensures.read.0, c.in-Ok.ensures.law))

pub returns-clause-whole : goal.returns-clause-whole
returns-clause-whole g c w =
    let s = c.in-Some.ensures.some_whole w in
    let r = c.resume.ensures.whole s.1 in
    (r.0, inr (g.S.Source.value c.in-Some.element, s.2 ∙ ap (λ us. g.S.Source.value c.in-Some.element ∷ us) (sym r.1)))

pub returns-in-Err-clause-err : goal.returns-in-Err-clause-err
returns-in-Err-clause-err g c w =
    let s = c.in-Some.ensures.some_whole w in
    inl (
      g.S.Source.value c.in-Some.element,
      _,
      s.2,
      (
        elim (c.in-Err.ensures.read s.0) [
          | inl m ↦ inl (c.placed.ensures ∙ m)
          | inr n ↦ inr n
        ],
        λ x p e. c.placed.ensures ∙ c.in-Err.ensures.law x p e s.0,
      ),
    )
