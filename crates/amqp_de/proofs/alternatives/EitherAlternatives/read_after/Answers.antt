use Rattle.std.proofs.Common.{rules, inl, inr}
use Rattle.amqp_ser.specs.Carried.{descriptor_content}
use Rattle.amqp_de.specs.Composites.{IsCodeOrName}
use Rattle.amqp_de.proofs.Composing.{this_refused, other_refused, this_memory, other_memory, this_same, other_same}
use Rattle.amqp_de.proofs.alternatives.EitherAlternatives.read_after.Goals as goal

pub returns-in-Ok-clause-law : goal.returns-in-Ok-clause-law
returns-in-Ok-clause-law g c =
    let own : IsCodeOrName g.T.Composite.descriptor_code g.T.Composite.descriptor_name (descriptor_content c.args.descriptor.now) = search rules in
    this_same g.T.Composite.descriptor_code g.T.Composite.descriptor_name g.R.Alternatives.code_of g.T.Composite.body.image g.R.Alternatives.image g.T.Composite.body.restorable g.R.Alternatives.restorable
    _ _ g.T.Composite.body.same g.R.Alternatives.same _ own c.in-Ok.ensures.law

pub returns-in-Err-clause-read : goal.returns-in-Err-clause-read
returns-in-Err-clause-read g c w =
    let own : IsCodeOrName g.T.Composite.descriptor_code g.T.Composite.descriptor_name (descriptor_content c.args.descriptor.now) = search rules in
    elim (c.in-Err.ensures.read w) [
      | inl m ↦ inl m
      | inr n ↦ inr (this_refused (IsCodeOrName g.T.Composite.descriptor_code g.T.Composite.descriptor_name) g.T.Composite.body.reads g.R.Alternatives.reads (descriptor_content c.args.descriptor.now) (g.S.Source.value c.args.source) own n)
    ]

pub returns-in-Err-clause-law : goal.returns-in-Err-clause-law
returns-in-Err-clause-law g c =
    let own : IsCodeOrName g.T.Composite.descriptor_code g.T.Composite.descriptor_name (descriptor_content c.args.descriptor.now) = search rules in
    this_memory g.T.Composite.descriptor_code g.T.Composite.descriptor_name g.R.Alternatives.code_of g.T.Composite.body.image g.R.Alternatives.image g.T.Composite.body.restorable g.R.Alternatives.restorable
    _ _ own c.in-Err.ensures.law

pub returns-in-Ok-read_after-clause-law : goal.returns-in-Ok-read_after-clause-law
returns-in-Ok-read_after-clause-law g c =
    let apart : ¬ IsCodeOrName g.T.Composite.descriptor_code g.T.Composite.descriptor_name (descriptor_content c.args.descriptor.now) = search rules in
    other_same g.T.Composite.descriptor_code g.T.Composite.descriptor_name g.R.Alternatives.code_of g.T.Composite.body.image g.R.Alternatives.image g.T.Composite.body.restorable g.R.Alternatives.restorable
    _ _ g.T.Composite.body.same g.R.Alternatives.same _ apart c.in-Ok-read_after.ensures.law

pub returns-in-Err-read_after-clause-read : goal.returns-in-Err-read_after-clause-read
returns-in-Err-read_after-clause-read g c w =
    let apart : ¬ IsCodeOrName g.T.Composite.descriptor_code g.T.Composite.descriptor_name (descriptor_content c.args.descriptor.now) = search rules in
    elim (c.in-Err-read_after.ensures.read w) [
      | inl m ↦ inl m
      | inr n ↦ inr (other_refused (IsCodeOrName g.T.Composite.descriptor_code g.T.Composite.descriptor_name) g.T.Composite.body.reads g.R.Alternatives.reads (descriptor_content c.args.descriptor.now) (g.S.Source.value c.args.source) apart n)
    ]

pub returns-in-Err-read_after-clause-law : goal.returns-in-Err-read_after-clause-law
returns-in-Err-read_after-clause-law g c =
    let apart : ¬ IsCodeOrName g.T.Composite.descriptor_code g.T.Composite.descriptor_name (descriptor_content c.args.descriptor.now) = search rules in
    other_memory g.T.Composite.descriptor_code g.T.Composite.descriptor_name g.R.Alternatives.code_of g.T.Composite.body.image g.R.Alternatives.image g.T.Composite.body.restorable g.R.Alternatives.restorable
    _ _ apart c.in-Err-read_after.ensures.law
