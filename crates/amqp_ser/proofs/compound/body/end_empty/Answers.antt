use Rattle.std.proofs.Common.{[], Err, sym, subst, ◌∙◌, ap}
use Rattle.amqp_ser.specs.Compounds.{tree_of_parts}
use Rattle.amqp_ser.specs.Structs.{form_kind}
use Rattle.amqp_ser.specs.declared.kind.CompoundKind.TheVariants.{Single}
use Rattle.amqp_ser.proofs.Single.{no_value}
use Rattle.amqp_ser.proofs.compound.body.end_empty.Goals as goal

-- A single value without a field has no tree, so the misuse error is permitted.
pub returns-in-Single-clause-empty : goal.returns-in-Single-clause-empty
returns-in-Single-clause-empty g c = λ start h.
    subst (λ t. g.S.Serializer.permits start t (Err c.misuse_error.result) c.misuse_error.new.self) (sym (ap (λ b. tree_of_parts (form_kind b) []) c.in-Single.is ∙ no_value)) (c.misuse_error.ensures.kept start Single [] h).1
