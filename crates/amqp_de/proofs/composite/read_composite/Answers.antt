use Rattle.std.proofs.Common.{rules, inl, inr, ◌≡◌}
use Rattle.amqp_ser.specs.Carried.{descriptor_content}
use Rattle.amqp_de.specs.Composites.{IsCodeOrName}
use Rattle.amqp_de.proofs.Composing.{is_composite, to_composite, of_composite, own_code}
use Rattle.amqp_de.proofs.Lists.{inner_same}
use Rattle.amqp_de.proofs.composite.read_composite.Goals as goal

pub returns-in-Err-clause-read : goal.returns-in-Err-clause-read
returns-in-Err-clause-read g c w =
    elim (c.in-Err.ensures.err w) [
      | inl m ↦ inl m
      | inr n ↦ inr (λ x h. let (d, u, is) = is_composite _ _ _ _ h in n d u is)
    ]

pub returns-in-Ok-read_body-clause-read : goal.returns-in-Ok-read_body-clause-read
returns-in-Ok-read_body-clause-read g c =
    let own : IsCodeOrName g.T.Composite.descriptor_code g.T.Composite.descriptor_name (descriptor_content c.in-Ok.opened.0) = search rules in
    let (is, left) = c.in-Ok.ensures.ok c.in-Ok-read_body.read.1 c.in-Ok-read_body.ensures.read.1 in
    (to_composite _ _ _ _ _ _ is own c.in-Ok-read_body.ensures.read.0, left)

pub returns-in-Err-read_body-clause-read : goal.returns-in-Err-read_body-clause-read
returns-in-Err-read_body-clause-read g c w =
    let (are, is) = c.in-Ok.ensures.whole w in
    elim (c.in-Err-read_body.ensures.read are) [
      | inl m ↦ inl m
      | inr n ↦ inr (λ x h. n x (of_composite _ _ _ _ _ _ is h).1)
    ]

pub returns-then-not-is_descriptor_of-clause-read : goal.returns-then-not-is_descriptor_of-clause-read
returns-then-not-is_descriptor_of-clause-read g c w =
    let (are, is) = c.in-Ok.ensures.whole w in
    let other : ¬ IsCodeOrName g.T.Composite.descriptor_code g.T.Composite.descriptor_name (descriptor_content c.in-Ok.opened.0) = search rules in
    inr (λ x h. other (of_composite _ _ _ _ _ _ is h).0)

pub returns-in-Err-clause-law : goal.returns-in-Err-clause-law
returns-in-Err-clause-law g c x some e w = elim (c.in-Err.ensures.err w) [ inl m ↦ m | inr n ↦ absurd (n _ _ e) ]

pub returns-then-not-is_descriptor_of-clause-law : goal.returns-then-not-is_descriptor_of-clause-law
returns-then-not-is_descriptor_of-clause-law g c x some e w =
    let (are, is) = c.in-Ok.ensures.whole w in
    let other : ¬ IsCodeOrName g.T.Composite.descriptor_code g.T.Composite.descriptor_name (descriptor_content c.in-Ok.opened.0) = search rules in
    absurd (other (own_code _ _ _ (inner_same _ _ _ _ _ is e).0))

pub returns-in-Ok-read_body-clause-law : goal.returns-in-Ok-read_body-clause-law
returns-in-Ok-read_body-clause-law g c x some e =
    let (is, left) = c.in-Ok.ensures.ok c.in-Ok-read_body.read.1 c.in-Ok-read_body.ensures.read.1 in
    c.in-Ok-read_body.ensures.law x some (inner_same _ _ _ _ _ is e).1

pub returns-in-Err-read_body-clause-law : goal.returns-in-Err-read_body-clause-law
returns-in-Err-read_body-clause-law g c x some e w =
    let (are, is) = c.in-Ok.ensures.whole w in
    c.in-Err-read_body.ensures.law x some (inner_same _ _ _ _ _ is e).1 are
