use Rattle.std.proofs.Common.{[], ◌∷◌, ◌++◌, Err, subst, append_assoc}
use Rattle.amqp_ser.specs.Compounds.{tree_of_parts}
use Rattle.amqp_ser.specs.declared.kind.CompoundKind.TheVariants.{Map}
use Rattle.amqp_ser.proofs.compound.part.serialize_map_entry.Goals as goal

-- If the value fails, its key is removed.
pub returns-in-Err : goal.returns-in-Err
returns-in-Err g c = λ start ps h e.
    let k = g.K.Serialize.tree c.args.key.now in
    let v = g.V.Serialize.tree c.args.value.now in
    let accepted = c.in_ok-serialize_part.ensures Map start ps h in
    let refused = c.in-Err.ensures Map start (ps ++ (k ∷ [])) accepted in (
      c.undo_part.ensures.back start ps k refused.0 e,
      λ rest. c.undo_part.ensures.refusals start ps k _ _ refused.0 e
          (subst (λ qs. g.S.Serializer.permits start (tree_of_parts Map qs) (Err c.in-Err.e) c.serialize_part-2.new.serializer) (append_assoc ps (k ∷ []) (v ∷ rest)) (refused.1 rest)),
    )
