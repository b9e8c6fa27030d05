use Rattle.std.proofs.Common.{inl, inr, ◌∙◌, sym, subst}
use Rattle.amqp_de.specs.Enums.{OnEnum}
use Rattle.amqp_de.proofs.by_index.ByIndexShape.read_parts.Goals as goal

pub returns-in-Err-clause-read : goal.returns-in-Err-clause-read
returns-in-Err-clause-read g c w = inl (c.in-Err.ensures.whole w)

pub returns-in-Ok-read_enum-clause-read : goal.returns-in-Ok-read_enum-clause-read
returns-in-Ok-read_enum-clause-read g c =
    (subst (λ t. OnEnum g.V.Variants.reads t c.in-Ok-read_enum.variant) c.in-Ok.ensures.read.0 c.in-Ok-read_enum.ensures.read, c.in-Ok.ensures.read.1)

pub returns-in-Err-read_enum-clause-read : goal.returns-in-Err-read_enum-clause-read
returns-in-Err-read_enum-clause-read g c w =
    elim (c.in-Err-read_enum.ensures.read tt) [
      | inl m ↦ inl m
      | inr n ↦ inr (λ x h. n x (subst (λ t. OnEnum g.V.Variants.reads t x) (sym c.in-Ok.ensures.read.0) h))
    ]

pub returns-in-Err-clause-law : goal.returns-in-Err-clause-law
returns-in-Err-clause-law g c x p e w = c.in-Err.ensures.whole w

pub returns-in-Ok-read_enum-clause-law : goal.returns-in-Ok-read_enum-clause-law
returns-in-Ok-read_enum-clause-law g c x p e = c.in-Ok-read_enum.ensures.law x p (c.in-Ok.ensures.read.0 ∙ e)

pub returns-in-Err-read_enum-clause-law : goal.returns-in-Err-read_enum-clause-law
returns-in-Err-read_enum-clause-law g c x p e w = c.in-Err-read_enum.ensures.law x p (c.in-Ok.ensures.read.0 ∙ e) tt
