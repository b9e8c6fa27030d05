use Rattle.std.proofs.Common.{sym, ◌∙◌}
use Rattle.amqp_visit.proofs.deserializer.Deserializer.deserialize_enum.Goals as goal

pub returns-then-is_descriptor_name : goal.returns-then-is_descriptor_name
returns-then-is_descriptor_name g c =
    rw (
      sym c.is_value_name.ensures ∙ c.if-is_value_name.false,
      sym c.is_descriptor_name.ensures ∙ c.if-is_descriptor_name.true,
    )
    c.deserialize_descriptor.ensures.visits
