use Rattle.std.proofs.Common.{rules, ◌≡◌, ◌∙◌, ap, sym, inl, inr}
use Rattle.amqp_de.specs.SourceKinds.{source_kind_of}
use Rattle.amqp_de.specs.declared.source_kind.SourceKind.TheVariants as form
use Rattle.amqp_de.proofs.AnyForms.{list_form, map_form, fields_named, named_fields, entries_named, named_entries, named_form, list_image, map_image, no_image}
use Rattle.amqp_de.proofs.Lists.{is_fields, is_entries}
use Rattle.amqp_de.proofs.any_of.read_as.Goals as goal

pub returns-in-Ok-clause-read : goal.returns-in-Ok-clause-read
returns-in-Ok-clause-read g c known = (fields_named _ _ c.in-Ok.ensures.read.0, c.in-Ok.ensures.read.1)

pub returns-in-Ok-clause-law : goal.returns-in-Ok-clause-law
returns-in-Ok-clause-law g c known x p i =
    let (ts, is, k) = is_fields _ _ c.in-Ok.ensures.read.0 in
    elim (list_image (g.F.FieldSeeds.names c.args.fields) (g.F.FieldSeeds.images x) (g.S.Source.value c.args.source) ts is i) [ inl all ↦ c.in-Ok.ensures.law x p all | inr short ↦ c.in-Ok.ensures.short x p short ]

pub returns-in-Err-clause-read : goal.returns-in-Err-clause-read
returns-in-Err-clause-read g c known w =
    let this : form.List ≡ c.args.form = search rules in
    let (ts, is) = list_form (g.S.Source.value c.args.source) (this ∙ known w) in
    elim (c.in-Err.ensures.read w) [ inl m ↦ inl m | inr n ↦ inr (λ x h. n x (named_fields _ _ ts is h)) ]

pub returns-in-Err-clause-law : goal.returns-in-Err-clause-law
returns-in-Err-clause-law g c known x p i w =
    let this : form.List ≡ c.args.form = search rules in
    let (ts, is) = list_form (g.S.Source.value c.args.source) (this ∙ known w) in
    elim (list_image (g.F.FieldSeeds.names c.args.fields) (g.F.FieldSeeds.images x) (g.S.Source.value c.args.source) ts is i) [ inl all ↦ c.in-Err.ensures.law x p all w | inr short ↦ c.in-Err.ensures.short x p short w ]

pub returns-in-Ok-read_array_fields-clause-read : goal.returns-in-Ok-read_array_fields-clause-read
returns-in-Ok-read_array_fields-clause-read g c known = c.in-Ok-read_array_fields.ensures.read

pub returns-in-Err-read_array_fields-clause-read : goal.returns-in-Err-read_array_fields-clause-read
returns-in-Err-read_array_fields-clause-read g c known w =
    let this : form.Array ≡ c.args.form = search rules in
    c.in-Err-read_array_fields.ensures.err w (this ∙ known w)

pub returns-in-Ok-read_array_fields-clause-law : goal.returns-in-Ok-read_array_fields-clause-law
returns-in-Ok-read_array_fields-clause-law g c known x p i =
    let (ts, is) = c.in-Ok-read_array_fields.ensures.array in
    absurd (no_image (g.F.FieldSeeds.names c.args.fields) (g.F.FieldSeeds.images x) (g.S.Source.value c.args.source) form.Array (sym (ap source_kind_of is)) (λ e. absurd cc) (λ e. absurd cc) i)

pub returns-in-Err-read_array_fields-clause-law : goal.returns-in-Err-read_array_fields-clause-law
returns-in-Err-read_array_fields-clause-law g c known x p i w =
    let this : form.Array ≡ c.args.form = search rules in
    absurd (no_image (g.F.FieldSeeds.names c.args.fields) (g.F.FieldSeeds.images x) (g.S.Source.value c.args.source) form.Array (this ∙ known w) (λ e. absurd cc) (λ e. absurd cc) i)

pub returns-in-Ok-read-clause-read : goal.returns-in-Ok-read-clause-read
returns-in-Ok-read-clause-read g c known = (entries_named _ _ c.in-Ok-read.ensures.read.0, c.in-Ok-read.ensures.read.1)

pub returns-in-Ok-read-clause-law : goal.returns-in-Ok-read-clause-law
returns-in-Ok-read-clause-law g c known x p i =
    let (ps, is, k) = is_entries _ _ c.in-Ok-read.ensures.read.0 in
    c.in-Ok-read.ensures.law x p (map_image (g.F.FieldSeeds.names c.args.fields) (g.F.FieldSeeds.images x) (g.S.Source.value c.args.source) ps is i)

pub returns-in-Err-read-clause-read : goal.returns-in-Err-read-clause-read
returns-in-Err-read-clause-read g c known w =
    let this : form.Map ≡ c.args.form = search rules in
    let (ps, is) = map_form (g.S.Source.value c.args.source) (this ∙ known w) in
    elim (c.in-Err-read.ensures.read w) [ inl m ↦ inl m | inr n ↦ inr (λ x h. n x (named_entries _ _ ps is h)) ]

pub returns-in-Err-read-clause-law : goal.returns-in-Err-read-clause-law
returns-in-Err-read-clause-law g c known x p i w =
    let this : form.Map ≡ c.args.form = search rules in
    let (ps, is) = map_form (g.S.Source.value c.args.source) (this ∙ known w) in
    c.in-Err-read.ensures.law x p (map_image (g.F.FieldSeeds.names c.args.fields) (g.F.FieldSeeds.images x) (g.S.Source.value c.args.source) ps is i) w

pub returns-in-Uint-clause-read : goal.returns-in-Uint-clause-read
returns-in-Uint-clause-read g c known w =
    let this : form.Uint ≡ c.args.form = search rules in
    inr (λ x h. (named_form _ _ h).0 (this ∙ known w))

pub returns-in-Uint-clause-law : goal.returns-in-Uint-clause-law
returns-in-Uint-clause-law g c known x p i w =
    let this : form.Uint ≡ c.args.form = search rules in
    absurd (no_image (g.F.FieldSeeds.names c.args.fields) (g.F.FieldSeeds.images x) (g.S.Source.value c.args.source) form.Uint (this ∙ known w) (λ e. absurd cc) (λ e. absurd cc) i)

pub returns-in-Other-clause-read : goal.returns-in-Other-clause-read
returns-in-Other-clause-read g c known w =
    let this : form.Other ≡ c.args.form = search rules in
    inr (λ x h. (named_form _ _ h).1 (this ∙ known w))

pub returns-in-Other-clause-law : goal.returns-in-Other-clause-law
returns-in-Other-clause-law g c known x p i w =
    let this : form.Other ≡ c.args.form = search rules in
    absurd (no_image (g.F.FieldSeeds.names c.args.fields) (g.F.FieldSeeds.images x) (g.S.Source.value c.args.source) form.Other (this ∙ known w) (λ e. absurd cc) (λ e. absurd cc) i)
