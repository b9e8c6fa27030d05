use Rattle.std.proofs.Common.{inl, inr, refl}
use Rattle.amqp_de.proofs.Lists.{is_described, to_described, of_described, inner_same}
use Rattle.amqp_de.proofs.impls.described.DescribedDeserialize.read.Goals as goal

pub returns-in-Err-clause-read : goal.returns-in-Err-clause-read
returns-in-Err-clause-read g c w =
    elim (c.in-Err.ensures.err w) [
      | inl m ↦ inl m
      | inr n ↦ inr (λ x h. let is = is_described _ _ _ h in n _ is.0 is.1)
    ]

pub returns-in-Err-clause-law : goal.returns-in-Err-clause-law
returns-in-Err-clause-law g c x some e w = elim (c.in-Err.ensures.err w) [ inl m ↦ m | inr n ↦ absurd (n _ _ e) ]

pub returns-in-Err-read-clause-read : goal.returns-in-Err-read-clause-read
returns-in-Err-read-clause-read g c w =
    let (are, is) = c.in-Ok.ensures.whole w in
    elim (c.in-Err-read.ensures.read are) [
      | inl m ↦ inl m
      | inr n ↦ inr (λ x h. n x.value (of_described _ _ _ _ _ is h).1)
    ]

pub returns-in-Err-read-clause-law : goal.returns-in-Err-read-clause-law
returns-in-Err-read-clause-law g c x some e w =
    let (are, is) = c.in-Ok.ensures.whole w in
    c.in-Err-read.ensures.law x.value some (inner_same _ _ _ _ _ is e).1 are

pub returns-clause-read : goal.returns-clause-read
returns-clause-read g c =
    let (is, left) = c.in-Ok.ensures.ok c.in-Ok-read.read.1 c.in-Ok-read.ensures.read.1 in
    (to_described _ _ _ _ _ is refl c.in-Ok-read.ensures.read.0, left)

pub returns-clause-law : goal.returns-clause-law
returns-clause-law g c x some e =
    let (is, left) = c.in-Ok.ensures.ok c.in-Ok-read.read.1 c.in-Ok-read.ensures.read.1 in
    let (d, u) = inner_same _ _ _ _ _ is e in
    (d, c.in-Ok-read.ensures.law x.value some u)
