use Rattle.std.proofs.Common.{sym, ◌∙◌}
use Rattle.amqp_visit.proofs.deserializer.Deserializer.deserialize_struct.Goals as goal

pub returns-then-is_described_name-clause-visits : goal.returns-then-is_described_name-clause-visits
returns-then-is_described_name-clause-visits g c =
    rw (sym c.is_described_name.ensures ∙ c.if-is_described_name.true) c.deserialize_described.ensures.visits

pub returns-else-is_described_name-clause-visits : goal.returns-else-is_described_name-clause-visits
returns-else-is_described_name-clause-visits g c =
    rw (sym c.is_described_name.ensures ∙ c.if-is_described_name.false) c.deserialize_seq.ensures.visits

pub returns-then-is_described_name-clause-invalid : goal.returns-then-is_described_name-clause-invalid
returns-then-is_described_name-clause-invalid g c =
    rw (sym c.is_described_name.ensures ∙ c.if-is_described_name.true) c.deserialize_described.ensures.invalid

pub returns-else-is_described_name-clause-invalid : goal.returns-else-is_described_name-clause-invalid
returns-else-is_described_name-clause-invalid g c =
    rw (sym c.is_described_name.ensures ∙ c.if-is_described_name.false) c.deserialize_seq.ensures.invalid
