use Rattle.std.proofs.Common.{inl, inr}
use Rattle.amqp_de.specs.Parts.{ReadsFields, images_of_fields, RestorableFields, SameFields}
use Rattle.amqp_de.proofs.FieldLemmas.{field_taken, field_refused, field_first, field_missing, early_rest, early_first, early_missing}
use Rattle.amqp_de.proofs.field_elements.read_three_elements.Goals as goal

pub returns-in-Err-clause-err : goal.returns-in-Err-clause-err
returns-in-Err-clause-err g c w =
    elim (c.in-Err.ensures.err w) [
      | inl (t, ts, e, (why, law)) ↦ elim why [ inl m ↦ inl m | inr none ↦ inr (field_first g.A.FieldKind.absent c.args.first.now g.A.FieldKind.reads (ReadsFields g.B.FieldKind.absent c.args.second.now g.B.FieldKind.reads (ReadsFields g.C.FieldKind.absent c.args.third.now g.C.FieldKind.reads (g.R.FieldSeeds.reads c.args.others.now))) t _ ts e none) ]
      | inr (e, must) ↦ inr (field_missing g.A.FieldKind.absent c.args.first.now g.A.FieldKind.reads (ReadsFields g.B.FieldKind.absent c.args.second.now g.B.FieldKind.reads (ReadsFields g.C.FieldKind.absent c.args.third.now g.C.FieldKind.reads (g.R.FieldSeeds.reads c.args.others.now))) _ e (λ x. (must x).0))
    ]

pub returns-in-Err-clause-law : goal.returns-in-Err-clause-law
returns-in-Err-clause-law g c x p k w =
    elim (c.in-Err.ensures.err w) [
      | inl (t, ts, e, (why, law)) ↦ law x.value p.0 (early_first (g.A.FieldKind.present x.value, g.A.FieldKind.image x.value) ((images_of_fields g.B.FieldKind.present g.B.FieldKind.image (images_of_fields g.C.FieldKind.present g.C.FieldKind.image g.R.FieldSeeds.images)) x.rest) t _ ts e k)
      | inr (e, must) ↦ early_missing (g.A.FieldKind.present x.value, g.A.FieldKind.image x.value) ((images_of_fields g.B.FieldKind.present g.B.FieldKind.image (images_of_fields g.C.FieldKind.present g.C.FieldKind.image g.R.FieldSeeds.images)) x.rest) _ e (must x.value).1 k
    ]

pub returns-in-Ok-read_two_elements-clause-ok : goal.returns-in-Ok-read_two_elements-clause-ok
returns-in-Ok-read_two_elements-clause-ok g c =
    field_taken g.A.FieldKind.absent c.args.first.now g.A.FieldKind.reads (ReadsFields g.B.FieldKind.absent c.args.second.now g.B.FieldKind.reads (ReadsFields g.C.FieldKind.absent c.args.third.now g.C.FieldKind.reads (g.R.FieldSeeds.reads c.args.others.now))) g.A.FieldKind.present g.A.FieldKind.image g.A.FieldKind.restorable g.A.FieldKind.same (images_of_fields g.B.FieldKind.present g.B.FieldKind.image (images_of_fields g.C.FieldKind.present g.C.FieldKind.image g.R.FieldSeeds.images)) (RestorableFields g.B.FieldKind.restorable (RestorableFields g.C.FieldKind.restorable g.R.FieldSeeds.restorable)) (SameFields g.B.FieldKind.same (SameFields g.C.FieldKind.same g.R.FieldSeeds.same)) c.law.ensures
    (g.S.Source.holds c.args.elements) _ c.in-Ok.value c.in-Ok-read_two_elements.rest c.in-Ok.ensures.ok c.in-Ok-read_two_elements.ensures.ok

pub returns-in-Err-read_two_elements-clause-err : goal.returns-in-Err-read_two_elements-clause-err
returns-in-Err-read_two_elements-clause-err g c w =
    let (are, follows) = c.in-Ok.ensures.whole w in
    elim (c.in-Err-read_two_elements.ensures.err are) [ inl m ↦ inl m | inr none ↦ inr (field_refused g.A.FieldKind.absent c.args.first.now g.A.FieldKind.reads (ReadsFields g.B.FieldKind.absent c.args.second.now g.B.FieldKind.reads (ReadsFields g.C.FieldKind.absent c.args.third.now g.C.FieldKind.reads (g.R.FieldSeeds.reads c.args.others.now))) _ _ follows none) ]

pub returns-in-Err-read_two_elements-clause-law : goal.returns-in-Err-read_two_elements-clause-law
returns-in-Err-read_two_elements-clause-law g c x p k w =
    let (are, follows) = c.in-Ok.ensures.whole w in
    c.in-Err-read_two_elements.ensures.law x.rest p.1 (early_rest (g.A.FieldKind.present x.value, g.A.FieldKind.image x.value) ((images_of_fields g.B.FieldKind.present g.B.FieldKind.image (images_of_fields g.C.FieldKind.present g.C.FieldKind.image g.R.FieldSeeds.images)) x.rest) _ _ follows k) are
