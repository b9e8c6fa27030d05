use Rattle.std.proofs.Common.{subst}
use Rattle.amqp_to_value.specs.ValueSerializer.{HasParts}
use Rattle.amqp_to_value.proofs.ValueSerializerLemmas.{single_value, parts_value}
use Rattle.amqp_to_value.proofs.open_value.OpenBody.into_value.Goals as goal

pub returns-in-Single : goal.returns-in-Single
returns-in-Single c = λ pending kind ps h complete. single_value pending c.in-Single.field-0 kind c.in-Single.value c.ok_or.result ps (subst (λ b. HasParts pending kind b ps) c.in-Single.is h) complete c.ok_or.ensures.value

pub returns-in-CollectedParts : goal.returns-in-CollectedParts
returns-in-CollectedParts c = λ pending kind ps h complete.
    let compound = subst (λ b. HasParts pending kind b ps) c.in-CollectedParts.is h in
    parts_value pending kind c.in-CollectedParts.parts c.into_value.result ps compound.1 c.into_value.ensures
