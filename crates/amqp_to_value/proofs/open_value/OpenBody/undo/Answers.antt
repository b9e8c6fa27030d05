use Rattle.std.proofs.Common.{[], ◌∷◌, ◌++◌, subst, refl}
use Rattle.amqp_ser.specs.declared.kind.CompoundKind.TheVariants as kind
use Rattle.amqp_to_value.specs.ValueSerializer.{HasParts}
use Rattle.amqp_to_value.proofs.ValueSerializerLemmas.{undone}
use Rattle.amqp_to_value.proofs.open_value.OpenBody.undo.Goals as goal

pub returns-in-CollectedParts : goal.returns-in-CollectedParts
returns-in-CollectedParts c = λ pending ps p h even.
    let compound = subst (λ b. HasParts pending kind.Map b (ps ++ (p ∷ []))) c.in-CollectedParts.is h in
    (refl, undone pending c.in-CollectedParts.parts c.undo.new.self ps p compound.1 even c.undo.ensures.makes c.undo.ensures.back)
