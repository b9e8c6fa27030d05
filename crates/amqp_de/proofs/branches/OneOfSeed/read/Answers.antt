use Rattle.std.proofs.Common.{inl, inr}
use Rattle.amqp_de.proofs.Branching.{is_branches, to_branches, of_branches}
use Rattle.amqp_de.proofs.Lists.{inner_same}
use Rattle.amqp_de.proofs.branches.OneOfSeed.read.Goals as goal

pub returns-in-Err-clause-read : goal.returns-in-Err-clause-read
returns-in-Err-clause-read g c w =
    elim (c.in-Err.ensures.err w) [
      | inl m ↦ inl m
      | inr n ↦ inr (λ x h. let (d, u, is, k) = is_branches _ _ x h in n d u is)
    ]

pub returns-in-Ok-read_after-clause-read : goal.returns-in-Ok-read_after-clause-read
returns-in-Ok-read_after-clause-read g c =
    let (is, left) = c.in-Ok.ensures.ok c.in-Ok-read_after.read.1 c.in-Ok-read_after.ensures.read.1 in
    (to_branches _ _ _ _ _ is c.in-Ok-read_after.ensures.read.0, left)

pub returns-clause-read : goal.returns-clause-read
returns-clause-read g c w =
    let (are, is) = c.in-Ok.ensures.whole w in
    elim (c.in-Err-read_after.ensures.read are) [
      | inl m ↦ inl m
      | inr n ↦ inr (λ x h. n x (of_branches _ _ x _ _ is h))
    ]

pub returns-in-Err-clause-law : goal.returns-in-Err-clause-law
returns-in-Err-clause-law g c x some e w = elim (c.in-Err.ensures.err w) [ inl m ↦ m | inr n ↦ absurd (n _ _ e) ]

pub returns-in-Ok-read_after-clause-law : goal.returns-in-Ok-read_after-clause-law
returns-in-Ok-read_after-clause-law g c x some e =
    let (is, left) = c.in-Ok.ensures.ok c.in-Ok-read_after.read.1 c.in-Ok-read_after.ensures.read.1 in
    let (d, u) = inner_same _ _ _ _ _ is e in
    c.in-Ok-read_after.ensures.law x some d u

pub returns-clause-law : goal.returns-clause-law
returns-clause-law g c x some e w =
    let (are, is) = c.in-Ok.ensures.whole w in
    let (d, u) = inner_same _ _ _ _ _ is e in
    c.in-Err-read_after.ensures.law x some d u are

pub returns-in-Err-clause-short : goal.returns-in-Err-clause-short
returns-in-Err-clause-short g c x some e w = returns-in-Err-clause-law g c x some e w

pub returns-in-Ok-read_after-clause-short : goal.returns-in-Ok-read_after-clause-short
returns-in-Ok-read_after-clause-short g c x some e = returns-in-Ok-read_after-clause-law g c x some e

pub returns-clause-short : goal.returns-clause-short
returns-clause-short g c x some e w = returns-clause-law g c x some e w
