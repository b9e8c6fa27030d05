use Rattle.std.proofs.Common.{◌≡◌, [], ◌∷◌, Some, sym, subst}
use Rattle.amqp_ser.specs.Compounds.{tree_of_parts}
use Rattle.amqp_ser.specs.declared.kind.CompoundKind.TheVariants as kinds
use Rattle.amqp_ser.proofs.compound.list_field.serialize_list_field.Goals as goal

some_is : {X : Type 0} (a b : X) → Some a ≡ Some b → a ≡ b
some_is a b q = cc

-- The single compound accepts the error of its first field as the error of its one part.
pub returns-in-Some-clause-first : goal.returns-in-Some-clause-first
returns-in-Some-clause-first g c = λ o start h.
    let f = c.in-Some.ensures.first o start h in
    let mid = f.1.1.0 in
    let waits = subst (λ x. g.S.Serializer.awaits start kinds.Single mid x []) (sym (some_is _ _ f.1.0)) f.1.1.1.0 in
    let refused = c.in-Err.ensures kinds.List mid [] f.1.1.1.1.0 in
    let close = c.close_first-single.ensures start mid waits in
    let tree = g.T.Serialize.tree c.args.value.now in
    ((close (tree_of_parts kinds.List (tree ∷ [])) (refused.1 [])).0, λ rest. (close (tree_of_parts kinds.List (tree ∷ rest)) (refused.1 rest)).1)
