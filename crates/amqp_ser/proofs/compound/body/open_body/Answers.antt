use Rattle.std.proofs.Common.{[], ◌++◌, Err, subst}
use Rattle.amqp_ser.specs.Compounds.{tree_of_parts}
use Rattle.amqp_ser.specs.Structs.{fields_kind, field_parts}
use Rattle.amqp_ser.specs.declared.kind.CompoundKind.TheVariants.{Single}
use Rattle.amqp_ser.proofs.Single.{whole_single}
use Rattle.amqp_ser.proofs.compound.body.open_body.Goals as goal

-- The single compound accepts the error of its body as the error of its one part.
pub returns-in-Err-end_part : goal.returns-in-Err-end_part
returns-in-Err-end_part g c = λ start h.
    let s1 = c.begin_part.new.self in
    let ready = c.begin_part.ensures.ready start Single [] h in
    let k = fields_kind c.args.in_map in
    let parts = field_parts c.args.in_map c.args.key.now (g.T.Serialize.tree c.args.value.now) in
    let opened = subst (λ x. g.S.Serializer.has s1 x c.begin_compound-fields.new.self c.begin_compound-fields.result []) c.fields_kind.ensures c.begin_compound-fields.ensures in
    let refused = c.in-Err.ensures s1 opened in
    let all = c.in-Err-end_part.ensures.step start Single s1 [] in (
      (all (tree_of_parts k (parts ++ [])) ready (refused.1 [])).0,
      λ rest. subst (λ t. g.S.Serializer.permits start t (Err c.in-Err-end_part.e) c.end_part.new.self) (whole_single (tree_of_parts k (parts ++ rest))) ((all (tree_of_parts k (parts ++ rest)) ready (refused.1 rest)).1 []),
    )
