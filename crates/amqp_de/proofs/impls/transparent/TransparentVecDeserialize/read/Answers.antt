use Rattle.std.proofs.Common.{inl, inr}
use Rattle.amqp_de.proofs.impls.transparent.TransparentVecDeserialize.read.Goals as goal

pub returns-in-Ok-clause-read : goal.returns-in-Ok-clause-read
returns-in-Ok-clause-read g c = rw c.new.ensures c.in-Ok.ensures.read

pub returns-in-Ok-clause-law : goal.returns-in-Ok-clause-law
returns-in-Ok-clause-law g c x some e = rw c.new.ensures (c.in-Ok.ensures.law x.0 some e)

pub returns-in-Err-clause-read : goal.returns-in-Err-clause-read
returns-in-Err-clause-read g c w = elim (c.in-Err.ensures.read w) [ inl m ↦ inl m | inr n ↦ inr (λ x. n x.0) ]

pub returns-in-Err-clause-law : goal.returns-in-Err-clause-law
returns-in-Err-clause-law g c x some e w = c.in-Err.ensures.law x.0 some e w
