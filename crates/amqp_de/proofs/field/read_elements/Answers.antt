use Rattle.std.proofs.Common.{inl, inr}
use Rattle.amqp_de.proofs.FieldLemmas.{field_taken, field_refused, field_first, field_missing, early_rest, early_first, early_missing}
use Rattle.amqp_de.proofs.field.read_elements.Goals as goal

pub returns-in-Err-clause-err : goal.returns-in-Err-clause-err
returns-in-Err-clause-err g c w =
    elim (c.in-Err.ensures.err w) [
      | inl (t, ts, e, (why, law)) ↦ elim why [ inl m ↦ inl m | inr none ↦ inr (field_first g.F.FieldKind.absent c.args.name.now g.F.FieldKind.reads (g.R.FieldSeeds.reads c.args.others.now) t _ ts e none) ]
      | inr (e, must) ↦ inr (field_missing g.F.FieldKind.absent c.args.name.now g.F.FieldKind.reads (g.R.FieldSeeds.reads c.args.others.now) _ e (λ x. (must x).0))
    ]

pub returns-in-Err-clause-law : goal.returns-in-Err-clause-law
returns-in-Err-clause-law g c x p k w =
    elim (c.in-Err.ensures.err w) [
      | inl (t, ts, e, (why, law)) ↦ law x.value p.0 (early_first (g.F.FieldKind.present x.value, g.F.FieldKind.image x.value) (g.R.FieldSeeds.images x.rest) t _ ts e k)
      | inr (e, must) ↦ early_missing (g.F.FieldKind.present x.value, g.F.FieldKind.image x.value) (g.R.FieldSeeds.images x.rest) _ e (must x.value).1 k
    ]

pub returns-in-Ok-read_elements-clause-ok : goal.returns-in-Ok-read_elements-clause-ok
returns-in-Ok-read_elements-clause-ok g c =
    field_taken g.F.FieldKind.absent c.args.name.now g.F.FieldKind.reads (g.R.FieldSeeds.reads c.args.others.now) g.F.FieldKind.present g.F.FieldKind.image g.F.FieldKind.restorable g.F.FieldKind.same g.R.FieldSeeds.images g.R.FieldSeeds.restorable g.R.FieldSeeds.same c.law.ensures
    (g.S.Source.holds c.args.elements) _ c.in-Ok.value c.in-Ok-read_elements.rest c.in-Ok.ensures.ok c.in-Ok-read_elements.ensures.ok

pub returns-in-Err-read_elements-clause-err : goal.returns-in-Err-read_elements-clause-err
returns-in-Err-read_elements-clause-err g c w =
    let (are, follows) = c.in-Ok.ensures.whole w in
    elim (c.in-Err-read_elements.ensures.err are) [ inl m ↦ inl m | inr none ↦ inr (field_refused g.F.FieldKind.absent c.args.name.now g.F.FieldKind.reads (g.R.FieldSeeds.reads c.args.others.now) _ _ follows none) ]

pub returns-in-Err-read_elements-clause-law : goal.returns-in-Err-read_elements-clause-law
returns-in-Err-read_elements-clause-law g c x p k w =
    let (are, follows) = c.in-Ok.ensures.whole w in
    c.in-Err-read_elements.ensures.law x.rest p.1 (early_rest (g.F.FieldKind.present x.value, g.F.FieldKind.image x.value) (g.R.FieldSeeds.images x.rest) _ _ follows k) are
