use Rattle.amqp_de.specs.Laws.{first_name, other_names}
use Rattle.amqp_de.proofs.Shapes.{fields_position, fields_name}
use Rattle.amqp_de.proofs.named_fields.FourNamedFields.names_suffice.Goals as goal

pub returns-clause-position : goal.returns-clause-position
returns-clause-position g c f ns =
    fields_position g.A.FieldKind.absent g.A.FieldKind.reads _ _ f.first.now (first_name ns)
    (fields_position g.B.FieldKind.absent g.B.FieldKind.reads _ _ f.second.now (first_name (other_names ns))
    (fields_position g.C.FieldKind.absent g.C.FieldKind.reads _ _ f.third.now (first_name (other_names (other_names ns)))
    (fields_position g.D.FieldKind.absent g.D.FieldKind.reads _ _ f.fourth.now (first_name (other_names (other_names (other_names ns))))
    (c.names_suffice.ensures.position f.rest (other_names (other_names (other_names (other_names ns))))))))

pub returns-clause-name : goal.returns-clause-name
returns-clause-name g c f =
    fields_name g.A.FieldKind.absent g.A.FieldKind.reads _ _ f.first.now
    (fields_name g.B.FieldKind.absent g.B.FieldKind.reads _ _ f.second.now
    (fields_name g.C.FieldKind.absent g.C.FieldKind.reads _ _ f.third.now
    (fields_name g.D.FieldKind.absent g.D.FieldKind.reads _ _ f.fourth.now (c.names_suffice.ensures.name f.rest))))
