use Rattle.amqp_de.specs.Laws.{first_name, other_names}
use Rattle.amqp_de.proofs.Shapes.{fields_position, fields_name}
use Rattle.amqp_de.proofs.named_fields.OneNamedFields.names_suffice.Goals as goal

pub returns-clause-position : goal.returns-clause-position
returns-clause-position g c f ns =
    fields_position g.F.FieldKind.absent g.F.FieldKind.reads (g.R.FieldSeeds.reads f.rest) (g.R.NamedFields.reads_by_names (other_names ns)) f.name.now
    (first_name ns) (c.names_suffice.ensures.position f.rest (other_names ns))

pub returns-clause-name : goal.returns-clause-name
returns-clause-name g c f =
    fields_name g.F.FieldKind.absent g.F.FieldKind.reads (g.R.FieldSeeds.reads f.rest) (g.R.NamedFields.reads_by_names (g.R.FieldSeeds.names f.rest)) f.name.now
    (c.names_suffice.ensures.name f.rest)
