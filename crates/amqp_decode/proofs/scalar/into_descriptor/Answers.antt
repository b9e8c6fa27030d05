use Rattle.std.proofs.Common.{refl}
use Rattle.amqp_decode.proofs.DescriptorLemmas.{other-value}
use Rattle.amqp_decode.proofs.scalar.into_descriptor.Goals as goal

pub returns : goal.returns
returns c = record { ok = tt; err = other-value c.args.value c.in_default.not-Ulong c.in_default.not-Symbol; kind = λ e. cc; fault = λ _ _. refl }
