use Rattle.std.specs.Prelude.{Err}
use Rattle.std.proofs.Common.{inl, refl, subst, sym}
use Rattle.amqp_data.specs.declared.error.Error.TheVariants.{InvalidValue}
use Rattle.amqp_ser.specs.Meant.{meant_none}
use Rattle.examples.specs.Nodes.{CountsFrom}
use Rattle.examples.proofs.counter.NodeCounterSerializer.misuse_error.Goals as goal

pub returns-clause-kept : goal.returns-clause-kept
returns-clause-kept c = λ start kind ps h.
    (h, (subst (λ o. CountsFrom start.descriptors o (Err InvalidValue)) (sym (meant_none start.pending)) (inl refl), h.1))
