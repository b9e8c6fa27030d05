use Rattle.std.proofs.Common.{inl, inr, rules, ◌≡◌, ◌∙◌, sym, subst}
use Rattle.amqp_de.specs.Fields.{OnNamed}
use Rattle.amqp_de.specs.SourceKinds.{source_kind_of}
use Rattle.amqp_de.specs.Present.{IsImage}
use Rattle.amqp_de.specs.declared.source_kind.SourceKind.TheVariants as form
use Rattle.amqp_de.proofs.AnyForms.{source_kind_is}
use Rattle.amqp_de.proofs.Shapes.{on_named}
use Rattle.amqp_de.proofs.any_of.read_any.Goals as goal

pub returns-in-Err-clause-read : goal.returns-in-Err-clause-read
returns-in-Err-clause-read g c w = inl (c.in-Err.ensures.whole w)

pub returns-in-Ok-read_as-clause-read : goal.returns-in-Ok-read_as-clause-read
returns-in-Ok-read_as-clause-read g c =
    let f = c.args.fields in
    let ns = g.F.FieldSeeds.names f in
    let y = c.in-Ok-read_as.read.0 in
    let by = on_named (g.F.FieldSeeds.reads f y) (g.F.NamedFields.reads_by_names ns y) (c.names_suffice.ensures.position f ns y) (c.names_suffice.ensures.name f y) (g.S.Source.value c.args.source) in
    let read = subst (λ t. OnNamed (g.F.FieldSeeds.reads f c.in-Ok-read_as.read.0) t) c.in-Ok.ensures.read.0 (c.in-Ok-read_as.ensures.read (λ w. c.source_kind_of.ensures)).0 in
    (by.0 read, c.in-Ok.ensures.read.1)

pub returns-in-Err-read_as-clause-read : goal.returns-in-Err-read_as-clause-read
returns-in-Err-read_as-clause-read g c w =
    let f = c.args.fields in
    let ns = g.F.FieldSeeds.names f in
    elim (c.in-Err-read_as.ensures.read (λ w. c.source_kind_of.ensures) tt) [
      | inl m ↦ inl (c.in_value.ensures ∙ m)
      | inr n ↦ inr (λ x h. n x (subst (λ t. OnNamed (g.F.FieldSeeds.reads f x) t) (sym c.in-Ok.ensures.read.0) ((on_named (g.F.FieldSeeds.reads f x) (g.F.NamedFields.reads_by_names ns x) (c.names_suffice.ensures.position f ns x) (c.names_suffice.ensures.name f x) (g.S.Source.value c.args.source)).1 h)))
    ]

pub returns-in-Err-clause-law : goal.returns-in-Err-clause-law
returns-in-Err-clause-law g c x p i w = c.in-Err.ensures.whole w

pub returns-in-Ok-read_as-clause-law : goal.returns-in-Ok-read_as-clause-law
returns-in-Ok-read_as-clause-law g c x p i = c.in-Ok-read_as.ensures.law (λ w. c.source_kind_of.ensures) x p (subst (IsImage (g.F.FieldSeeds.names c.args.fields) (g.F.FieldSeeds.images x)) (sym c.in-Ok.ensures.read.0) i)

pub returns-in-Err-read_as-clause-law : goal.returns-in-Err-read_as-clause-law
returns-in-Err-read_as-clause-law g c x p i w = c.in_value.ensures ∙ c.in-Err-read_as.ensures.law (λ w. c.source_kind_of.ensures) x p (subst (IsImage (g.F.FieldSeeds.names c.args.fields) (g.F.FieldSeeds.images x)) (sym c.in-Ok.ensures.read.0) i) tt

pub returns-in-Ok-read_as-2-clause-read : goal.returns-in-Ok-read_as-2-clause-read
returns-in-Ok-read_as-2-clause-read g c =
    let told : ¬ (c.source_kind.result ≡ form.Other) = search rules in
    let known : g.S.Source.is_whole c.args.source → c.source_kind.result ≡ source_kind_of (g.S.Source.value c.args.source) = λ w. source_kind_is c.source_kind.result (g.S.Source.value c.args.source) (c.source_kind.ensures w) told in
    let f = c.args.fields in
    let ns = g.F.FieldSeeds.names f in
    let y = c.in-Ok-read_as-2.read.0 in
    let by = on_named (g.F.FieldSeeds.reads f y) (g.F.NamedFields.reads_by_names ns y) (c.names_suffice.ensures.position f ns y) (c.names_suffice.ensures.name f y) (g.S.Source.value c.args.source) in
    let read = c.in-Ok-read_as-2.ensures.read known in
    (by.0 read.0, read.1)

pub returns-in-Err-read_as-2-clause-read : goal.returns-in-Err-read_as-2-clause-read
returns-in-Err-read_as-2-clause-read g c =
    let told : ¬ (c.source_kind.result ≡ form.Other) = search rules in
    let known : g.S.Source.is_whole c.args.source → c.source_kind.result ≡ source_kind_of (g.S.Source.value c.args.source) = λ w. source_kind_is c.source_kind.result (g.S.Source.value c.args.source) (c.source_kind.ensures w) told in
    let f = c.args.fields in
    let ns = g.F.FieldSeeds.names f in
    λ w. elim (c.in-Err-read_as-2.ensures.read known w) [
      | inl m ↦ inl m
      | inr n ↦ inr (λ x h. n x ((on_named (g.F.FieldSeeds.reads f x) (g.F.NamedFields.reads_by_names ns x) (c.names_suffice.ensures.position f ns x) (c.names_suffice.ensures.name f x) (g.S.Source.value c.args.source)).1 h))
    ]

pub returns-in-Ok-read_as-2-clause-law : goal.returns-in-Ok-read_as-2-clause-law
returns-in-Ok-read_as-2-clause-law g c =
    let told : ¬ (c.source_kind.result ≡ form.Other) = search rules in
    let known : g.S.Source.is_whole c.args.source → c.source_kind.result ≡ source_kind_of (g.S.Source.value c.args.source) = λ w. source_kind_is c.source_kind.result (g.S.Source.value c.args.source) (c.source_kind.ensures w) told in
    c.in-Ok-read_as-2.ensures.law known

pub returns-in-Err-read_as-2-clause-law : goal.returns-in-Err-read_as-2-clause-law
returns-in-Err-read_as-2-clause-law g c =
    let told : ¬ (c.source_kind.result ≡ form.Other) = search rules in
    let known : g.S.Source.is_whole c.args.source → c.source_kind.result ≡ source_kind_of (g.S.Source.value c.args.source) = λ w. source_kind_is c.source_kind.result (g.S.Source.value c.args.source) (c.source_kind.ensures w) told in
    c.in-Err-read_as-2.ensures.law known
