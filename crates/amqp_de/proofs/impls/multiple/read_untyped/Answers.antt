use Rattle.std.proofs.Common.{inl, ◌⊎◌, subst, ◌∙◌}
use Rattle.amqp_data.specs.declared.multiple.Multiple.{Multiple}
use Rattle.amqp_de.specs.Multiple.{ReadsMultiple}
use Rattle.amqp_de.specs.Results.{IsMemory}
use Rattle.amqp_de.proofs.impls.multiple.read_untyped.Goals as goal

pub returns-in-Err-clause-read : goal.returns-in-Err-clause-read
returns-in-Err-clause-read g c w = inl (c.in-Err.ensures.whole w)

pub returns-in-Err-clause-law : goal.returns-in-Err-clause-law
returns-in-Err-clause-law g c x p e w = c.in-Err.ensures.whole w

pub returns-in-Ok-read_multiple-clause-read : goal.returns-in-Ok-read_multiple-clause-read
returns-in-Ok-read_multiple-clause-read g c =
    (subst (λ t. ReadsMultiple g.T.Deserialize.reads t c.in-Ok-read_multiple.values) c.in-Ok.ensures.read.0 c.in-Ok-read_multiple.ensures.read, c.in-Ok.ensures.read.1)

pub returns-in-Ok-read_multiple-clause-law : goal.returns-in-Ok-read_multiple-clause-law
returns-in-Ok-read_multiple-clause-law g c x p e = c.in-Ok-read_multiple.ensures.law x p (c.in-Ok.ensures.read.0 ∙ e)

pub returns-in-Err-read_multiple-clause-read : goal.returns-in-Err-read_multiple-clause-read
returns-in-Err-read_multiple-clause-read g c w =
    subst (λ t. IsMemory c.in-Err-read_multiple.fault ⊎ ((x : Multiple g.row.T.Denot) → ¬ ReadsMultiple g.T.Deserialize.reads t x)) c.in-Ok.ensures.read.0 (c.in-Err-read_multiple.ensures.read tt)

pub returns-in-Err-read_multiple-clause-law : goal.returns-in-Err-read_multiple-clause-law
returns-in-Err-read_multiple-clause-law g c x p e w = c.in-Err-read_multiple.ensures.law x p (c.in-Ok.ensures.read.0 ∙ e) tt
