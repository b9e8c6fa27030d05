use Rattle.std.proofs.Common.{inl, inr, ◌∷◌, sym, ◌∙◌, true≢false}
use Rattle.amqp_de.specs.Parts.{ReadsFields, images_of_fields, RestorableFields, SameFields}
use Rattle.amqp_de.proofs.FieldLemmas.{named_taken, named_refused, named_first, named_missing}
use Rattle.amqp_de.proofs.LeftOut.{others_distinct, present_value, not_present, rest_there}
use Rattle.amqp_de.proofs.field_entries.read_three_entries.Goals as goal

pub returns-in-Err-clause-err : goal.returns-in-Err-clause-err
returns-in-Err-clause-err g c w =
    elim (c.in-Err.ensures.err w) [
      | inl (t, at, (why, law)) ↦ elim why [ inl m ↦ inl m | inr none ↦ inr (named_first g.A.FieldKind.absent c.args.first.now g.A.FieldKind.reads (ReadsFields g.B.FieldKind.absent c.args.second.now g.B.FieldKind.reads (ReadsFields g.C.FieldKind.absent c.args.third.now g.C.FieldKind.reads (g.R.FieldSeeds.reads c.args.others.now))) _ t at none) ]
      | inr (e, must) ↦ inr (named_missing g.A.FieldKind.absent c.args.first.now g.A.FieldKind.reads (ReadsFields g.B.FieldKind.absent c.args.second.now g.B.FieldKind.reads (ReadsFields g.C.FieldKind.absent c.args.third.now g.C.FieldKind.reads (g.R.FieldSeeds.reads c.args.others.now))) _ e (λ x. (must x).0))
    ]

pub returns-in-Err-clause-law : goal.returns-in-Err-clause-law
returns-in-Err-clause-law g c x p d e w =
    elim (c.in-Err.ensures.err w) [
      | inl (t, at, (why, law)) ↦ law x.value p.0 (present_value c.args.first.now (g.A.FieldKind.present x.value) (g.A.FieldKind.image x.value) (c.args.second.now ∷ c.args.third.now ∷ g.R.FieldSeeds.names c.args.others.now) ((images_of_fields g.B.FieldKind.present g.B.FieldKind.image (images_of_fields g.C.FieldKind.present g.C.FieldKind.image g.R.FieldSeeds.images)) x.rest) _ t d e at)
      | inr (none, must) ↦ absurd (true≢false (sym (must x.value).1 ∙ not_present c.args.first.now (g.A.FieldKind.present x.value) (g.A.FieldKind.image x.value) (c.args.second.now ∷ c.args.third.now ∷ g.R.FieldSeeds.names c.args.others.now) ((images_of_fields g.B.FieldKind.present g.B.FieldKind.image (images_of_fields g.C.FieldKind.present g.C.FieldKind.image g.R.FieldSeeds.images)) x.rest) _ e none))
    ]

pub returns-in-Ok-read_two_entries-clause-ok : goal.returns-in-Ok-read_two_entries-clause-ok
returns-in-Ok-read_two_entries-clause-ok g c =
    named_taken g.A.FieldKind.absent c.args.first.now g.A.FieldKind.reads (ReadsFields g.B.FieldKind.absent c.args.second.now g.B.FieldKind.reads (ReadsFields g.C.FieldKind.absent c.args.third.now g.C.FieldKind.reads (g.R.FieldSeeds.reads c.args.others.now))) g.A.FieldKind.present g.A.FieldKind.image g.A.FieldKind.restorable g.A.FieldKind.same (images_of_fields g.B.FieldKind.present g.B.FieldKind.image (images_of_fields g.C.FieldKind.present g.C.FieldKind.image g.R.FieldSeeds.images)) (RestorableFields g.B.FieldKind.restorable (RestorableFields g.C.FieldKind.restorable g.R.FieldSeeds.restorable)) (SameFields g.B.FieldKind.same (SameFields g.C.FieldKind.same g.R.FieldSeeds.same)) c.law.ensures
    (c.args.second.now ∷ c.args.third.now ∷ g.R.FieldSeeds.names c.args.others.now) g.S.Source.needs g.S.Source.only c.named_value.ensures.needs c.named_value.ensures.enough
    (g.S.Source.holds_pairs c.args.entries) _ c.in-Ok.value c.in-Ok-read_two_entries.rest c.in-Ok.ensures.ok c.in-Ok-read_two_entries.ensures.ok

pub returns-in-Err-read_two_entries-clause-err : goal.returns-in-Err-read_two_entries-clause-err
returns-in-Err-read_two_entries-clause-err g c w =
    let (are, after) = c.in-Ok.ensures.whole w in
    elim (c.in-Err-read_two_entries.ensures.err are) [ inl m ↦ inl m | inr none ↦ inr (named_refused g.A.FieldKind.absent c.args.first.now g.A.FieldKind.reads (ReadsFields g.B.FieldKind.absent c.args.second.now g.B.FieldKind.reads (ReadsFields g.C.FieldKind.absent c.args.third.now g.C.FieldKind.reads (g.R.FieldSeeds.reads c.args.others.now))) _ _ after none) ]

pub returns-in-Err-read_two_entries-clause-law : goal.returns-in-Err-read_two_entries-clause-law
returns-in-Err-read_two_entries-clause-law g c x p d e w =
    let (are, after) = c.in-Ok.ensures.whole w in
    c.in-Err-read_two_entries.ensures.law x.rest p.1 (others_distinct c.args.first.now (c.args.second.now ∷ c.args.third.now ∷ g.R.FieldSeeds.names c.args.others.now) d)
    (rest_there c.args.first.now (g.A.FieldKind.present x.value) (g.A.FieldKind.image x.value) (c.args.second.now ∷ c.args.third.now ∷ g.R.FieldSeeds.names c.args.others.now) ((images_of_fields g.B.FieldKind.present g.B.FieldKind.image (images_of_fields g.C.FieldKind.present g.C.FieldKind.image g.R.FieldSeeds.images)) x.rest) _ _ d e after) are
