use Rattle.std.proofs.Common.{subst}
use Rattle.amqp_de.specs.Answers.{Refuses}
use Rattle.amqp_from_value.specs.Limited.{ReadsAllowed}
use Rattle.amqp_from_value.proofs.FromReaderLemmas.{IsMemory}
use Rattle.amqp_from_value.proofs.limited.from_slice_with.Goals as goal

pub returns-in-Err : goal.returns-in-Err
returns-in-Err g c =
    subst (λ l. Refuses IsMemory (ReadsAllowed g.T.Deserialize.reads l c.args.bytes.now) c.in-Err.error)
    c.limits_or_default.ensures c.in-Err.ensures.read
