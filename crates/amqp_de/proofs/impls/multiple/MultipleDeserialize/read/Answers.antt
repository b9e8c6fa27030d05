use Rattle.std.proofs.Common.{rules, ◌≡◌, true, inl, inr, ap, subst}
use Rattle.amqp_data.specs.declared.multiple.Multiple.TheVariants.{Many}
use Rattle.amqp_de.specs.SourceKinds.{HasSourceKind}
use Rattle.amqp_de.specs.Multiple.{is_array_tree, SameMultiple}
use Rattle.amqp_de.specs.Results.{IsMemory}
use Rattle.amqp_de.specs.declared.source_kind.SourceKind.TheVariants as form
use Rattle.amqp_de.proofs.AnyForms.{array_form}
use Rattle.amqp_de.proofs.Multiples.{array_is, many_refused, from_many}
use Rattle.amqp_de.proofs.impls.multiple.MultipleDeserialize.read.Goals as goal

pub returns-in-Ok-clause-read : goal.returns-in-Ok-clause-read
returns-in-Ok-clause-read g c = ((array_is _ _ c.in-Ok.ensures.read.0, c.in-Ok.ensures.read.0), c.in-Ok.ensures.read.1)

pub returns-in-Ok-clause-law : goal.returns-in-Ok-clause-law
returns-in-Ok-clause-law g c =
    let T = g.T.Deserialize in
    from_many T.image T.restorable (g.S.Source.value c.args.source) (λ x. SameMultiple T.same (Many c.in-Ok.values) x) (array_is _ _ c.in-Ok.ensures.read.0) c.in-Ok.ensures.law

pub returns-in-Err-clause-read : goal.returns-in-Err-clause-read
returns-in-Err-clause-read g c w =
    let t = g.S.Source.value c.args.source in
    let known : c.source_kind.result ≡ form.Array = search rules in
    let (ts, is) = array_form t (subst (λ f. HasSourceKind f t) known (c.source_kind.ensures w)) in
    let array : is_array_tree t ≡ true = ap is_array_tree is in
    elim (c.in-Err.ensures.read w) [ inl m ↦ inl m | inr n ↦ inr (many_refused g.T.Deserialize.reads t array n) ]

pub returns-in-Err-clause-law : goal.returns-in-Err-clause-law
returns-in-Err-clause-law g c x p e w =
    let T = g.T.Deserialize in
    let t = g.S.Source.value c.args.source in
    let known : c.source_kind.result ≡ form.Array = search rules in
    let (ts, is) = array_form t (subst (λ f. HasSourceKind f t) known (c.source_kind.ensures w)) in
    let array : is_array_tree t ≡ true = ap is_array_tree is in
    from_many T.image T.restorable t (λ _. IsMemory c.in-Err.fault) array (λ y q f. c.in-Err.ensures.law y q f w) x p e
